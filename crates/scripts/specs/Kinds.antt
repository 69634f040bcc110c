-- The kinds of trees, and the lines that name them.
use Rattle.std.specs.Prelude.{if◌then◌else◌, ℕ, List, Some, None, codes, Option}
use Rattle.std.specs.Str.{bytes_eq}
use Rattle.scripts.specs.declared.kinds.Kind.{Kind}
use Rattle.scripts.specs.declared.kinds.Kind.TheVariants.{Plant, Grammar}

abbrev pub kind_name : Kind → List ℕ
kind_name Plant = codes "plant"
kind_name Grammar = codes "grammar"

abbrev pub kind_of : List ℕ → Option Kind
kind_of line =
    if bytes_eq line (kind_name Plant) then Some Plant
    else if bytes_eq line (kind_name Grammar) then Some Grammar
    else None

-- how many codes the kind's rules have
abbrev pub kind_codes : Kind → ℕ
kind_codes Plant = 12
kind_codes Grammar = 65536
