-- The formula of each kind of dependency, of j on i, over the places where the two transactions start and end.
use Rattle.std.specs.Prelude.{ℕ, Bool, false, ◌&&◌, ◌||◌, not, nat_lt, Option, Some, None, is_some, is_none, if◌then◌else◌}
use Rattle.acta_table.specs.declared.dep.Dep.{Dep}
use Rattle.acta_table.specs.declared.dep.Dep.TheVariants.{Cd, Scd, Ad, Wd, Td, Ed, Cmd, Bd, Sd, Bcd, Bad, Wcd}
use Rattle.acta_table.specs.declared.dep.Missing.{Missing}
use Rattle.acta_table.specs.declared.dep.Missing.TheVariants.{Commit, Abort}
use Rattle.acta_axioms.specs.declared.course.Course.{Course}
use Rattle.acta_axioms.specs.History.{least, end}

-- whether both places exist, and the first is the smaller
abbrev pub is_before : Option ℕ → Option ℕ → Bool
is_before None n = false
is_before (Some m) None = false
is_before (Some m) (Some n) = nat_lt m n

-- whether the transaction committed or aborted before the place
abbrev pub is_decided_before : Course → Option ℕ → Bool
is_decided_before c n = is_before c.commit n || is_before c.abort n

-- whether the formula of this kind is false; joining another transaction is neither a commit nor an abort
unfoldable pub is_false : Dep → Course → Course → Bool
-- commit: both committed, but i not before j
is_false Cd j i = is_some i.commit && is_some j.commit && not (is_before i.commit j.commit)
-- strong-commit: i committed, and j has not
is_false Scd j i = is_some i.commit && is_none j.commit
-- abort: i aborted, and j has not
is_false Ad j i = is_some i.abort && is_none j.abort
-- weak-abort: i aborted, and j has neither aborted nor committed before that
is_false Wd j i = is_some i.abort && is_none j.abort && not (is_before j.commit i.abort)
-- termination: j committed or aborted, but i had not done so before
is_false Td j i =
    let decided = least j.commit j.abort in
    is_some decided && not (is_decided_before i decided)
-- exclusion: i committed, j began, and j has not aborted
is_false Ed j i = is_some i.commit && is_some j.start && is_none j.abort
-- force-commit-on-abort: i aborted, and j has not committed
is_false Cmd j i = is_some i.abort && is_none j.commit
-- begin: j began, and i had not begun before
is_false Bd j i = is_some j.start && not (is_before i.start j.start)
-- serial: j began, and i had neither committed nor aborted before
is_false Sd j i = is_some j.start && not (is_decided_before i j.start)
-- begin-on-commit: j began, and i had not committed before
is_false Bcd j i = is_some j.start && not (is_before i.commit j.start)
-- begin-on-abort: j began, and i had not aborted before
is_false Bad j i = is_some j.start && not (is_before i.abort j.start)
-- weak-begin-on-commit: i committed and j began, but j began before that commit
is_false Wcd j i = is_some i.commit && is_some j.start && not (is_before i.commit j.start)

-- the event of j that would make a false formula of this kind true, if there is one
abbrev pub payment : Dep → Option Missing
payment Scd = Some Commit
payment Cmd = Some Commit
payment Ad = Some Abort
payment Wd = Some Abort
payment Ed = Some Abort
payment _ = None

-- the debt of j: the formula is false, and j has not ended
abbrev pub debt : Dep → Course → Course → Option Missing
debt kind j i = if is_false kind j i && is_none (end j) then payment kind else None

-- whether the formula is false and j owes nothing for it
abbrev pub is_broken : Dep → Course → Course → Bool
is_broken kind j i = is_false kind j i && is_none (debt kind j i)
