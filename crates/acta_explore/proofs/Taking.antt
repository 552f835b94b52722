-- A machine's answer and the step that it gives.
use Rattle.std.proofs.Common.{◌≡◌, ℕ, List, [], ◌∷◌, ◌++◌, length, map, Option, Some, None, is_none, refl, sym, ap, subst, ◌∙◌}
use Rattle.std.specs.Prelude.{if◌then◌else◌, option_and_then}
use Rattle.std.specs.List.{AllByRecursion}
use Rattle.std.proofs.lemmas.List.{length-map, map-append}
use Rattle.acta_table.specs.declared.answer.Answer.TheVariants.{Admitted, Refused}
use Rattle.acta_table.specs.declared.answer.Refusal.{Refusal}
use Rattle.acta_table.specs.declared.answer.Rule.{Rule}
use Rattle.acta_table.specs.declared.event.Event.{Event}
use Rattle.acta_table.specs.declared.event.Kept.{Kept}
use Rattle.acta_table.specs.declared.event.Ret.{Ret}
use Rattle.acta_machine.specs.Table.{State, kept_as, answered, refusal_in, answer_to, after}
use Rattle.acta_explore.specs.declared.point.Done.{Done}
use Rattle.acta_explore.specs.declared.point.Step.{Step}
use Rattle.acta_explore.specs.declared.point.Turn.{Turn}
use Rattle.acta_explore.specs.Points.{Point, gone_on, tried, stepped}
use Rattle.acta_explore.specs.Programs.{Programs, lines_done, next_from, event_at}
use Rattle.acta_explore.specs.inside.Numbered.{Differ, HaveOwnLines, IsUndone, ReturnAsKept}
use Rattle.acta_explore.proofs.Pairs.{Pairs, pairs-push}
use Rattle.acta_explore.proofs.Stepping.{after-admitted}

from-answered : {A : Type 0} (s : State A) (e : Event A) (r : Option Refusal) (place : ℕ) (ret : Option Ret) → answered s e r ≡ Admitted place ret → (r ≡ None) × (ret ≡ (kept_as s e).ret)
from-answered s e None place ret h = (refl, cc)
from-answered s e (Some r) place ret h = absurd cc

admission : {A : Type 0} (s : State A) (e : Event A) (place : ℕ) (ret : Option Ret) → answer_to s e ≡ Admitted place ret → (refusal_in s e ≡ None) × (ret ≡ (kept_as s e).ret)
unfolding answer_to
admission s e place ret h = from-answered s e (refusal_in s e) place ret h

tried-so : {A : Type 0} (p : Point A) (turn : Turn) (l : ℕ) (e : Event A) (r : Option Refusal) → r ≡ None → (if is_none r then Some (gone_on p turn l e) else None) ≡ Some (gone_on p turn l e)
tried-so p turn l e None h = refl
tried-so p turn l e (Some r) h = absurd cc

-- the step that an admitted event is
abbrev pub step_by : Turn → ℕ → Option Ret → Step
step_by turn l ret = record { seat = turn.seat; line = l; alternative = turn.alternative; ret = ret }

-- the point after an admitted event
pub went-on : {A : Type 0} (p : Point A) (turn : Turn) (l : ℕ) (e : Event A) (place : ℕ) (ret : Option Ret) (steps : List Step) (state : State A) → answer_to p.state e ≡ Admitted place ret → steps ≡ p.steps ++ step_by turn l ret ∷ [] → state ≡ after p.state e → Some (record { steps = steps; state = state }) ≡ tried p turn l e
went-on p turn l e place ret steps state h m s =
    let reported = admission p.state e place ret h in
    let same : steps ≡ p.steps ++ step_by turn l (kept_as p.state e).ret ∷ [] = m ∙ ap (λ (r : Option Ret). p.steps ++ step_by turn l r ∷ []) reported.1 in
    (λ i. Some (record { steps = same i; state = s i })) ∙ sym (tried-so p turn l e (refusal_in p.state e) reported.0)

lines-new : (l : ℕ) (steps : List Step) → IsUndone steps l → AllByRecursion (λ k. Differ k l) (map (λ s. s.line) steps)
lines-new l [] all = tt
lines-new l (s ∷ steps) all = (all.0, lines-new l steps all.1)

-- one more step does a line that no step did
pub own-more : (steps : List Step) (s : Step) → HaveOwnLines steps → IsUndone steps s.line → HaveOwnLines (steps ++ s ∷ [])
own-more steps s own new =
    subst (Pairs Differ) (sym (map-append (λ r. r.line) steps (s ∷ []))) (pairs-push Differ (map (λ r. r.line) steps) s.line own (lines-new s.line steps new))

-- it returns what the event does
pub returns-on : {A : Type 0} (p : Point A) (turn : Turn) (l : ℕ) (e : Event A) (place : ℕ) (ret : Option Ret) (steps : List Step) (state : State A) → ReturnAsKept p.steps p.state.kept → answer_to p.state e ≡ Admitted place ret → steps ≡ p.steps ++ step_by turn l ret ∷ [] → state ≡ after p.state e → ReturnAsKept steps state.kept
returns-on p turn l e place ret steps state so h m s =
    let reported = admission p.state e place ret h in
    ap (map (λ (r : Step). r.ret)) m
    ∙ (map-append (λ r. r.ret) p.steps (step_by turn l ret ∷ [])
    ∙ ((λ i. so i ++ reported.1 i ∷ [])
    ∙ (sym (map-append (λ k. k.ret) p.state.kept (kept_as p.state e ∷ []))
    ∙ ap (λ (t : State _). map (λ k. k.ret) t.kept) (sym (s ∙ after-admitted p.state e reported.0)))))

-- there are as many steps as events
pub as-many : {A : Type 0} (steps : List Step) (kept : List (Kept A)) → ReturnAsKept steps kept → length steps ≡ length kept
as-many steps kept so = sym (length-map steps (λ s. s.ret)) ∙ (ap (λ (rs : List (Option Ret)). length rs) so ∙ length-map kept (λ k. k.ret))

from-refused : {A : Type 0} (p : Point A) (turn : Turn) (l : ℕ) (e : Event A) (r : Option Refusal) (rule : Rule) (by : Option ℕ) → answered p.state e r ≡ Refused rule by → None ≡ (if is_none r then Some (gone_on p turn l e) else None)
from-refused p turn l e None rule by h = absurd cc
from-refused p turn l e (Some r) rule by h = refl

-- there is none after a refused one
pub stayed : {A : Type 0} (p : Point A) (turn : Turn) (l : ℕ) (e : Event A) (rule : Rule) (by : Option ℕ) → answer_to p.state e ≡ Refused rule by → None ≡ tried p turn l e
unfolding answer_to
stayed p turn l e rule by h = from-refused p turn l e (refusal_in p.state e) rule by h

-- a turn without a line, or without an event, is no step
pub no-line : {A : Type 0} (programs : Programs A) (p : Point A) (turn : Turn) (done : List (Option Done)) → done ≡ lines_done programs p.steps → next_from 0 programs done turn.seat ≡ None → None ≡ stepped programs p turn
unfolding stepped
no-line programs p turn done same none =
    sym (ap (λ (l : Option ℕ). option_and_then (λ l. option_and_then (tried p turn l) (event_at programs p.steps l turn.alternative)) l) (ap (λ (ds : List (Option Done)). next_from 0 programs ds turn.seat) (sym same) ∙ none))

pub no-event : {A : Type 0} (programs : Programs A) (p : Point A) (turn : Turn) (done : List (Option Done)) (l : ℕ) → done ≡ lines_done programs p.steps → next_from 0 programs done turn.seat ≡ Some l → event_at programs p.steps l turn.alternative ≡ None → None ≡ stepped programs p turn
unfolding stepped
no-event programs p turn done l same next none =
    sym (ap (λ (l : Option ℕ). option_and_then (λ l. option_and_then (tried p turn l) (event_at programs p.steps l turn.alternative)) l) (ap (λ (ds : List (Option Done)). next_from 0 programs ds turn.seat) (sym same) ∙ next)
    ∙ ap (option_and_then (tried p turn l)) none)

pub the-event : {A : Type 0} (programs : Programs A) (p : Point A) (turn : Turn) (done : List (Option Done)) (l : ℕ) (e : Event A) → done ≡ lines_done programs p.steps → next_from 0 programs done turn.seat ≡ Some l → event_at programs p.steps l turn.alternative ≡ Some e → tried p turn l e ≡ stepped programs p turn
unfolding stepped
the-event programs p turn done l e same next some =
    sym (ap (λ (l : Option ℕ). option_and_then (λ l. option_and_then (tried p turn l) (event_at programs p.steps l turn.alternative)) l) (ap (λ (ds : List (Option Done)). next_from 0 programs ds turn.seat) (sym same) ∙ next)
    ∙ ap (option_and_then (tried p turn l)) some)
