-- The kinds of dependency: codes, short names, and sets of kinds as bit masks.
use Rattle.std.specs.Prelude.{ℕ, ◌^◌, Bool, true, false, List, [], ◌∷◌, Option, Some, codes}
use Rattle.acta_table.specs.declared.dep.Dep.{Dep}
use Rattle.acta_table.specs.declared.dep.Dep.TheVariants.{Cd, Scd, Ad, Wd, Td, Ed, Cmd, Bd, Sd, Bcd, Bad, Wcd}
use Rattle.acta_table.specs.declared.dep.Missing.{Missing}
use Rattle.acta_table.specs.declared.dep.Missing.TheVariants.{Commit, Abort}
use Rattle.acta_table.specs.Kinds.{has_bit}

-- the code of the kind, which is also its bit in a mask, from 0
abbrev pub code_of : Dep → ℕ
code_of Cd = 0
code_of Scd = 1
code_of Ad = 2
code_of Wd = 3
code_of Td = 4
code_of Ed = 5
code_of Cmd = 6
code_of Bd = 7
code_of Sd = 8
code_of Bcd = 9
code_of Bad = 10
code_of Wcd = 11

-- all kinds, by code
abbrev pub all_kinds : List Dep
all_kinds = Cd ∷ Scd ∷ Ad ∷ Wd ∷ Td ∷ Ed ∷ Cmd ∷ Bd ∷ Sd ∷ Bcd ∷ Bad ∷ Wcd ∷ []

-- the short name of the kind
abbrev pub word_of : Dep → List ℕ
word_of Cd = codes "CD"
word_of Scd = codes "SCD"
word_of Ad = codes "AD"
word_of Wd = codes "WD"
word_of Td = codes "TD"
word_of Ed = codes "ED"
word_of Cmd = codes "CMD"
word_of Bd = codes "BD"
word_of Sd = codes "SD"
word_of Bcd = codes "BCD"
word_of Bad = codes "BAD"
word_of Wcd = codes "WCD"

-- whether the kind limits when the dependent transaction may begin
abbrev pub is_begin_kind : Dep → Bool
is_begin_kind Bd = true
is_begin_kind Sd = true
is_begin_kind Bcd = true
is_begin_kind Bad = true
is_begin_kind Wcd = true
is_begin_kind _ = false

-- whether the kind is in the set
abbrev pub has_dep : ℕ → Dep → Bool
has_dep kinds kind = has_bit kinds (code_of kind)

-- the set of this kind alone
abbrev pub only_dep : Dep → ℕ
only_dep kind = 2 ^ code_of kind

-- whether the missing event is a commit, or an abort
abbrev pub is_commit : Option Missing → Bool
is_commit (Some Commit) = true
is_commit _ = false

abbrev pub is_abort : Option Missing → Bool
is_abort (Some Abort) = true
is_abort _ = false
