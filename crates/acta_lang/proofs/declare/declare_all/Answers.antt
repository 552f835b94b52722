use Rattle.std.proofs.Common.{ℕ, ◌+◌, ◌==◌, List, Option, [], length, take, Ok, Err, option_map, refl, sym, ap, subst, ◌∙◌, arith}
use Rattle.acta_words.specs.Text.{lines_of, words_of}
use Rattle.acta_words.specs.inside.LinesToCome.{lines_to_come}
use Rattle.acta_lang.specs.Diagnostics.{IsWhole, diagnostic_in, fault_of, reported}
use Rattle.acta_lang.specs.Drafts.{Draft, OpenClass, extended_by}
use Rattle.acta_lang.specs.Faults.{code_at}
use Rattle.acta_lang.specs.Forms.{form_of}
use Rattle.acta_lang.specs.inside.Noted.{IsNoted, IsParsed, Noted, diagnosis, noted, noted_by}
use Rattle.acta_lang.specs.inside.Abstraction.{abstraction}
use Rattle.acta_lang.proofs.Diagnosing.{at_line, declares-next, mapped-none, mapped-some, next, none_open, one_name}
use Rattle.acta_lang.proofs.NoCodes.{no_test}
use Rattle.acta_lang.proofs.Noting.{noted-next}
use Rattle.acta_lang.proofs.Sound.{faultless_at, keeps, current_is_new}
use Rattle.acta_lang.proofs.Turns.{meaning_from, after_is_from, turn, ends, stops, goes_by}
use Rattle.acta_lang.proofs.Whole.{is_whole, line-next}
use Rattle.acta_lang.proofs.declare.declare_all.Goals as goal

pub overflow_add-number : goal.overflow_add-number
overflow_add-number g c = omega (arith, ap length c.in-Some.ensures.steps, c.loop-line.invariant.counts)

pub read_line-requires : goal.read_line-requires
read_line-requires g c = current_is_new (abstraction c.loop-line.draft) c.loop-line.invariant.faultless

pub returns-in-Some-2-clause-fault : goal.returns-in-Some-2-clause-fault
returns-in-Some-2-clause-fault g c =
    let d = abstraction c.loop-line.draft in
    let line = c.in-Some.line.now in
    let n = c.loop-line.number in
    let rest = lines_to_come c.next.new.self in
    let x = noted c.loop-line.draft in
    let reported_so = c.in_ok-found.ensures.code ∙ ap (λ b. option_map (diagnosis d x (n + 1) line) (code_at d b line)) c.is_over.ensures in
    let code = mapped-some reported (diagnosis d x (n + 1) line) (code_at d (length rest == 0) line) c.in-Some-2.found (ap (option_map reported) (sym c.in-Some-2.is) ∙ reported_so) in
    let fault = ap fault_of code.2 in
    let means =
    after_is_from [] (lines_of c.args.text.now)
    ∙ stops (n + 1) _ code.0 _ _ code.1
    (turn (n + 1) d line (lines_to_come c.loop-line.lines) rest _ c.in-Some.ensures.steps c.loop-line.invariant.means) in
    let placed = at_line c.args.text.now n d x line rest code.0 c.loop-line.invariant.declares c.loop-line.invariant.notes (one_name c.loop-line.draft.current) (c.loop-line.invariant.left ∙ c.in-Some.ensures.steps) in (
      means ∙ ap (λ f. Err f) (sym fault),
      (code.2 ∙ placed ∙ ap (diagnostic_in _ c.args.text.now) (sym fault), subst IsWhole (sym code.2) (is_whole c.loop-line.draft (n + 1) (length rest == 0) line code.0 c.loop-line.invariant.parsed code.1)),
    )

pub loop-line-preserved : goal.loop-line-preserved
loop-line-preserved g c =
    let d = abstraction c.loop-line.draft in
    let line = c.in-Some.line.now in
    let rest = lines_to_come c.next.new.self in
    let words = words_of line in
    let n = c.loop-line.number in
    let x = noted c.loop-line.draft in
    let reported_so = c.in_ok-found.ensures.code ∙ ap (λ b. option_map (diagnosis d x (n + 1) line) (code_at d b line)) c.is_over.ensures in
    let none = mapped-none reported (diagnosis d x (n + 1) line) (code_at d (length rest == 0) line) (ap (option_map reported) (sym c.in_default-2.is) ∙ reported_so) in
    let fits = no_test d (length rest == 0) line words (form_of words) none in
    let was = c.in_ok-found.was ∙ ap Ok c.in_default-2.is in
    let added = c.read_line.ensures.added was in
    let left = c.loop-line.invariant.left ∙ c.in-Some.ensures.steps in
    record {
      means =
          ap (λ e. meaning_from (c.loop-line.number + 1 + 1) e rest) added
          ∙ goes_by (c.loop-line.number + 1) _ _ _ none
          (turn (c.loop-line.number + 1) d line (lines_to_come c.loop-line.lines) rest _ c.in-Some.ensures.steps c.loop-line.invariant.means);
      counts = omega (arith, ap length c.in-Some.ensures.steps, c.loop-line.invariant.counts);
      faultless = faultless_at _ _ added (keeps d (length rest == 0) line words (form_of words) fits c.loop-line.invariant.faultless);
      declares =
          added ∙ ap (λ e. extended_by e line) c.loop-line.invariant.declares
          ∙ sym (declares-next n (lines_of c.args.text.now) line rest left);
      notes =
          let it = next n (lines_of c.args.text.now) line rest left in
          let here = noted-next (take n (lines_of c.args.text.now)) line x c.loop-line.invariant.notes (n + 1) (ap (λ k. k + 1) (sym it.1.1.1)) (none_open d c.loop-line.draft.current (form_of words) refl fits.place) in
          subst (λ (y : Noted). IsNoted (take (n + 1) (lines_of c.args.text.now)) y) (sym (c.read_line.ensures.noted was)) (subst (λ (lines : List (List ℕ)). IsNoted lines (noted_by (n + 1) words (form_of words) x)) (sym it.1.0) here);
      parsed =
          subst (λ (o : Option OpenClass). IsParsed o (noted c.read_line.new.draft).current) (sym (ap (λ (e : Draft _). e.current) added))
          (subst (λ (y : Noted). IsParsed (extended_by d line).current y.current) (sym (c.read_line.ensures.noted was)) (line-next (n + 1) words (form_of words) d x c.loop-line.invariant.parsed));
      left = (next n (lines_of c.args.text.now) line rest left).1.1.0;
    }

pub returns-clause-ok : goal.returns-clause-ok
returns-clause-ok g c =
    after_is_from [] (lines_of c.args.text.now)
    ∙ ends (c.loop-line.number + 1) (abstraction c.loop-line.draft) (lines_to_come c.loop-line.lines) _ c.in_default.ensures.steps.0 c.loop-line.invariant.means
