-- The code of each rule.
use Rattle.std.specs.Prelude.{ℕ, ◌+◌, ◌*◌}
use Rattle.rules.specs.declared.plant.PlantRule.{PlantRule}
use Rattle.rules.specs.declared.plant.PlantRule.TheVariants.{Line, Stamp, Plant, Key, Value, Unit, Brine, Setpoint, Alarm, Note, Comment, End}

abbrev pub plant_code : PlantRule → ℕ
plant_code Line = 0
plant_code Stamp = 1
plant_code Plant = 2
plant_code Key = 3
plant_code Value = 4
plant_code Unit = 5
plant_code Brine = 6
plant_code Setpoint = 7
plant_code Alarm = 8
plant_code Note = 9
plant_code Comment = 10
plant_code End = 11

-- by the grammar, and the number in it
abbrev pub grammar_code : ℕ → ℕ → ℕ
grammar_code grammar number = grammar * 4096 + number
