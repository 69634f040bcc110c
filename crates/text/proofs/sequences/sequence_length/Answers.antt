use Rattle.std.proofs.Common.{arith}
use Rattle.std.proofs.lemmas.Bool.Decides.{nat_tests}
use Rattle.text.proofs.Shapes.{led, length_of}
use Rattle.text.proofs.sequences.sequence_length.Goals as goal

pub returns-in-0-to-127 : goal.returns-in-0-to-127
unfolding led
returns-in-0-to-127 c = length_of c.args.lead _ (grind (arith, nat_tests)) (omega arith) (omega arith)

pub returns-in-194-to-223 : goal.returns-in-194-to-223
unfolding led
returns-in-194-to-223 c = length_of c.args.lead _ (grind (arith, nat_tests)) (omega arith) (omega arith)

pub returns-in-224-to-239 : goal.returns-in-224-to-239
unfolding led
returns-in-224-to-239 c = length_of c.args.lead _ (grind (arith, nat_tests)) (omega arith) (omega arith)

pub returns-in-240-to-244 : goal.returns-in-240-to-244
unfolding led
returns-in-240-to-244 c = length_of c.args.lead _ (grind (arith, nat_tests)) (omega arith) (omega arith)
