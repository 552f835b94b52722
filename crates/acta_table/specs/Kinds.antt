-- Sets of kinds of event as bit masks.
use Rattle.std.specs.Prelude.{ℕ, ◌^◌, Bool, false, ◌==◌, Option, Some, None}
use Rattle.std.specs.Int.{bit_at}
use Rattle.std.specs.Option.{option_map_or}
use Rattle.acta_table.specs.declared.event.EventKind.{EventKind}
use Rattle.acta_table.specs.declared.event.EventKind.TheVariants.{Begin, Spawn, Split, Join, Delegate, Form, Operate, Commit, Abort, Permit}

-- the bit of the kind, from 0; Begin has none
abbrev pub kind_code : EventKind → Option ℕ
kind_code Begin = None
kind_code Spawn = Some 0
kind_code Split = Some 1
kind_code Join = Some 2
kind_code Delegate = Some 3
kind_code Form = Some 4
kind_code Operate = Some 5
kind_code Commit = Some 6
kind_code Abort = Some 7
kind_code Permit = Some 8

-- whether the bit of this code is set
abbrev pub has_bit : ℕ → ℕ → Bool
has_bit bits code = bit_at bits code == 1

-- whether the kind is in the set; Begin is in none
abbrev pub has_kind : ℕ → EventKind → Bool
has_kind kinds kind = option_map_or (has_bit kinds) (kind_code kind) false

-- the set of this kind alone; the empty set for Begin
abbrev pub only_kind : EventKind → ℕ
only_kind kind = option_map_or (λ code. 2 ^ code) (kind_code kind) 0
