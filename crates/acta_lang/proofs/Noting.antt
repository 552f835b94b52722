-- The code's notes agree with the lines that it has read.
use Rattle.std.proofs.Common.{◌≡◌, ℕ, suc, ◌+◌, ◌≤◌, ◌<◌, Bool, true, false, cond, ◌&&◌, List, [], ◌∷◌, ◌++◌, length, refl, sym, ap, subst, ◌∙◌, arith}
use Rattle.std.specs.Prelude.{Option, Some, None, option_map, unwrap_or}
use Rattle.std.specs.List.{position_from}
use Rattle.std.specs.Option.{option_or}
use Rattle.std.specs.Str.{bytes_eq}
use Rattle.std.proofs.lemmas.Bool.{lt-ltb, le-ltb}
use Rattle.acta_words.specs.Text.{words_of}
use Rattle.acta_lang.specs.declared.form.Form.{Form}
use Rattle.acta_lang.specs.declared.form.Form.TheVariants as form
use Rattle.acta_lang.specs.Faults.{is_class, is_object}
use Rattle.acta_lang.specs.Forms.{form_of, name_in}
use Rattle.acta_lang.specs.Lines.{ClassAt, begun, behind, class_since, declares, first_line, is_starts, is_may, is_scope, is_policy, is_commit, is_delegation, last_class, last_line, says, with_line}
use Rattle.acta_lang.specs.inside.Noted.{IsNoted, Noted, NotedName, closed_noted, current_line, line_of, noted_by, object_noted, parsed_more, parsed_noted}

some-is : {X : Type 0} (x y : X) → Some x ≡ Some y → x ≡ y
some-is x y e = cc

or-none : {X : Type 0} (o : Option X) → option_or o None ≡ o
or-none None = refl
or-none (Some x) = refl

-- ---- the last line that passes a test, of some lines and one more

pushed : (b : Bool) (m : ℕ) (o r : Option ℕ) → option_or (option_map suc (cond b (Some m) o)) r ≡ cond b (Some (suc m)) (option_or (option_map suc o) r)
pushed true m o r = refl
pushed false m o r = refl

last-push : (test : List ℕ → Bool) (xs : List (List ℕ)) (x : List ℕ) → last_line test (xs ++ x ∷ []) ≡ cond (test x) (Some (suc (length xs))) (last_line test xs)
last-push test [] x = refl
last-push test (y ∷ ys) x =
    ap (λ o. option_or (option_map suc o) (cond (test y) (Some 1) None)) (last-push test ys x)
    ∙ pushed (test x) (suc (length ys)) (last_line test ys) (cond (test y) (Some 1) None)

last-within : (test : List ℕ → Bool) (xs : List (List ℕ)) (n : ℕ) → last_line test xs ≡ Some n → n ≤ length xs
last-within test [] n e = absurd cc
last-within test (y ∷ ys) n e = of_rest (last_line test ys) (λ m is. last-within test ys m is) (test y) e
  where
    of_rest : (o : Option ℕ) → ((m : ℕ) → o ≡ Some m → m ≤ length ys) → (b : Bool) → option_or (option_map suc o) (cond b (Some 1) None) ≡ Some n → n ≤ suc (length ys)
    of_rest (Some m) within b e = let low = within m refl in let same = some-is (suc m) n e in omega (arith, low, same)
    of_rest None within true e = let same = some-is 1 n e in omega (arith, same)
    of_rest None within false e = absurd cc

-- the last line after line k that passes the test, of these lines and one more
behind-next : (test : List ℕ → Bool) (k : ℕ) (xs : List (List ℕ)) (x : List ℕ) → k ≤ length xs → behind k (last_line test (xs ++ x ∷ [])) ≡ cond (test x) (Some (length xs + 1)) (behind k (last_line test xs))
behind-next test k xs x le = ap (behind k) (last-push test xs x) ∙ of_test (test x)
  where
    of_test : (b : Bool) → behind k (cond b (Some (suc (length xs))) (last_line test xs)) ≡ cond b (Some (length xs + 1)) (behind k (last_line test xs))
    of_test true =
        let up : suc (length xs) ≡ length xs + 1 = omega arith in
        ap (λ b. cond b (Some (suc (length xs))) None) (lt-ltb k (suc (length xs)) (omega (arith, le))) ∙ ap (λ n. Some n) up
    of_test false = refl

behind-none : (test : List ℕ → Bool) (k : ℕ) (xs : List (List ℕ)) → length xs < k → behind k (last_line test xs) ≡ None
behind-none test k xs lt = of_last (last_line test xs) refl
  where
    of_last : (o : Option ℕ) → last_line test xs ≡ o → behind k o ≡ None
    of_last None is = refl
    of_last (Some n) is = let low = last-within test xs n is in ap (λ b. cond b (Some n) None) (le-ltb k n (omega (arith, low, lt)))

begins-within : (xs : List (List ℕ)) → unwrap_or (last_line (says is_class) xs) 0 ≤ length xs
begins-within xs = of_last (last_line (says is_class) xs) refl
  where
    of_last : (o : Option ℕ) → last_line (says is_class) xs ≡ o → unwrap_or o 0 ≤ length xs
    of_last None is = omega arith
    of_last (Some n) is = last-within (says is_class) xs n is

-- ---- the first line that passes a test, of some lines and one more

first-push : (test : List ℕ → Bool) (i : ℕ) (xs : List (List ℕ)) (x : List ℕ) → position_from test i (xs ++ x ∷ []) ≡ option_or (position_from test i xs) (cond (test x) (Some (i + length xs)) None)
first-push test i [] x = let same : i ≡ i + 0 = omega arith in ap (λ n. cond (test x) (Some n) None) same
first-push test i (y ∷ ys) x =
    let same : i + 1 + length ys ≡ i + suc (length ys) = omega arith in
    of_test (test y) (first-push test (i + 1) ys x ∙ ap (λ n. option_or (position_from test (i + 1) ys) (cond (test x) (Some n) None)) same)
  where
    of_test : (b : Bool) → position_from test (i + 1) (ys ++ x ∷ []) ≡ option_or (position_from test (i + 1) ys) (cond (test x) (Some (i + suc (length ys))) None)
        → cond b (Some i) (position_from test (i + 1) (ys ++ x ∷ [])) ≡ option_or (cond b (Some i) (position_from test (i + 1) ys)) (cond (test x) (Some (i + suc (length ys))) None)
    of_test true rest = refl
    of_test false rest = rest

line-push : (name : List ℕ) (xs : List NotedName) (x : NotedName) → line_of name (xs ++ x ∷ []) ≡ option_or (line_of name xs) (cond (bytes_eq name x.name) (Some x.line) None)
line-push name [] x = refl
line-push name (y ∷ ys) x = of_test (bytes_eq name y.name) (line-push name ys x)
  where
    of_test : (b : Bool) → line_of name (ys ++ x ∷ []) ≡ option_or (line_of name ys) (cond (bytes_eq name x.name) (Some x.line) None)
        → cond b (Some y.line) (line_of name (ys ++ x ∷ [])) ≡ option_or (cond b (Some y.line) (line_of name ys)) (cond (bytes_eq name x.name) (Some x.line) None)
    of_test true rest = refl
    of_test false rest = rest

-- ---- one line more, of this form

module _ (before : List (List ℕ)) (line : List ℕ) (parsed : Form) (is : form_of (words_of line) ≡ parsed) where
  declared-next : (test : Form → Bool) (word : List ℕ) → first_line (declares test word) (before ++ line ∷ []) ≡ option_or (first_line (declares test word) before) (cond (test parsed && bytes_eq word (name_in (words_of line))) (Some (length before + 1)) None)
  declared-next test word =
      let number : 1 + length before ≡ length before + 1 = omega arith in
      first-push (declares test word) 1 before line
      ∙ (λ i. option_or (first_line (declares test word) before) (cond (test (is i) && bytes_eq word (name_in (words_of line))) (Some (number i)) None))

  names-same : (test : Form → Bool) (word : List ℕ) → test parsed ≡ false → first_line (declares test word) (before ++ line ∷ []) ≡ first_line (declares test word) before
  names-same test word isnt =
      declared-next test word
      ∙ ap (λ b. option_or (first_line (declares test word) before) (cond (b && bytes_eq word (name_in (words_of line))) (Some (length before + 1)) None)) isnt
      ∙ or-none (first_line (declares test word) before)

  -- a line that begins no class
  part-next : (part : Form → Bool) (k : ℕ) → k ≤ length before → behind k (last_line (says part) (before ++ line ∷ [])) ≡ cond (part parsed) (Some (length before + 1)) (behind k (last_line (says part) before))
  part-next part k le =
      behind-next (says part) k before line le ∙ ap (λ f. cond (part f) (Some (length before + 1)) (behind k (last_line (says part) before))) is

  class-next : (word : List ℕ) → is_class parsed ≡ false → last_class word (before ++ line ∷ []) ≡ record (last_class word before) { parts = with_line parsed (length before + 1) (last_class word before).parts }
  class-next word isnt =
      let k = unwrap_or (last_line (says is_class) before) 0 in
      let le = begins-within before in
      let same : unwrap_or (last_line (says is_class) (before ++ line ∷ [])) 0 ≡ k =
      ap (λ o. unwrap_or o 0) (last-push (says is_class) before line ∙ ap (λ f. cond (is_class f) (Some (suc (length before))) (last_line (says is_class) before)) is ∙ ap (λ b. cond b (Some (suc (length before))) (last_line (says is_class) before)) isnt) in
      ap (λ n. class_since word n (before ++ line ∷ [])) same
      ∙ (λ i. record {
        name = word;
        line = k;
        parts = record {
          starts = part-next is_starts k le i;
          may = part-next is_may k le i;
          scope = part-next is_scope k le i;
          policy = part-next is_policy k le i;
          commit = part-next is_commit k le i;
          delegation = part-next is_delegation k le i;
        };
      })

  -- a line that begins one
  part-none : (part : Form → Bool) → part parsed ≡ false → behind (length before + 1) (last_line (says part) (before ++ line ∷ [])) ≡ None
  part-none part isnt =
      ap (behind (length before + 1)) (last-push (says part) before line ∙ ap (λ f. cond (part f) (Some (suc (length before))) (last_line (says part) before)) is ∙ ap (λ b. cond b (Some (suc (length before))) (last_line (says part) before)) isnt)
      ∙ behind-none (says part) (length before + 1) before (omega arith)

  class-begun : (word : List ℕ) → parsed ≡ form.Class → last_class word (before ++ line ∷ []) ≡ begun word (length before + 1)
  class-begun word class =
      let same : unwrap_or (last_line (says is_class) (before ++ line ∷ [])) 0 ≡ length before + 1 =
      ap (λ o. unwrap_or o 0) (last-push (says is_class) before line ∙ ap (λ f. cond (is_class f) (Some (suc (length before))) (last_line (says is_class) before)) (is ∙ class)) ∙ omega arith in
      ap (λ n. class_since word n (before ++ line ∷ [])) same
      ∙ (λ i. record {
        name = word;
        line = length before + 1;
        parts = record {
          starts = part-none is_starts (ap is_starts class) i;
          may = part-none is_may (ap is_may class) i;
          scope = part-none is_scope (ap is_scope class) i;
          policy = part-none is_policy (ap is_policy class) i;
          commit = part-none is_commit (ap is_commit class) i;
          delegation = part-none is_delegation (ap is_delegation class) i;
        };
      })

module _ (before : List (List ℕ)) (line : List ℕ) (x : Noted) (h : IsNoted before x) where
  -- a line of an object, which has no part of a class
  object-noted : (parsed : Form) → form_of (words_of line) ≡ parsed → is_object parsed ≡ true → is_class parsed ≡ false → ((c : ClassAt) → parsed_more parsed (length before + 1) c ≡ c)
      → IsNoted (before ++ line ∷ []) (object_noted x (name_in (words_of line)) (length before + 1))
  object-noted parsed is holds isnt same = record {
    objects = λ word.
        line-push word x.objects (record { name = name_in (words_of line); line = length before + 1 })
        ∙ ap (λ o. option_or o (cond (bytes_eq word (name_in (words_of line))) (Some (length before + 1)) None)) (h.objects word)
        ∙ sym (declared-next before line parsed is is_object word ∙ ap (λ b. option_or (first_line (declares is_object word) before) (cond (b && bytes_eq word (name_in (words_of line))) (Some (length before + 1)) None)) holds);
    classes = λ word. h.classes word ∙ sym (names-same before line parsed is is_class word isnt);
    current = λ c opened. h.current c opened ∙ sym (class-next before line parsed is c.name isnt ∙ same (last_class c.name before));
  }

  -- a line that begins a class, where none is open
  class-noted : form_of (words_of line) ≡ form.Class → x.current ≡ None → IsNoted (before ++ line ∷ []) (record x { current = Some (begun (name_in (words_of line)) (length before + 1)) })
  class-noted is none = record {
    objects = λ word. h.objects word ∙ sym (names-same before line form.Class is is_object word refl);
    classes = λ word.
        ap (λ o. option_or o (cond (bytes_eq word (name_in (words_of line))) (Some (length before + 1)) None))
        (sym (or-none (line_of word x.classes)) ∙ ap (λ o. option_or (line_of word x.classes) (current_line word o)) (sym none) ∙ h.classes word)
        ∙ sym (declared-next before line form.Class is is_class word);
    current = λ c opened.
        let same = some-is (begun (name_in (words_of line)) (length before + 1)) c opened in
        subst (λ (c : ClassAt). c ≡ last_class c.name (before ++ line ∷ [])) same (sym (class-begun before line form.Class is (name_in (words_of line)) refl));
  }

  -- a line that ends one
  end-noted : form_of (words_of line) ≡ form.End → (o : Option ClassAt) → x.current ≡ o → IsNoted (before ++ line ∷ []) (closed_noted x o)
  end-noted is None none = record {
    objects = λ word. h.objects word ∙ sym (names-same before line form.End is is_object word refl);
    classes = λ word. h.classes word ∙ sym (names-same before line form.End is is_class word refl);
    current = λ c opened. let clash : None ≡ Some c = sym none ∙ opened in absurd cc;
  }
  end-noted is (Some class) some = record {
    objects = λ word. h.objects word ∙ sym (names-same before line form.End is is_object word refl);
    classes = λ word.
        or-none (line_of word (x.classes ++ (record { name = class.name; line = class.line }) ∷ []))
        ∙ line-push word x.classes (record { name = class.name; line = class.line })
        ∙ ap (λ o. option_or (line_of word x.classes) (current_line word o)) (sym some)
        ∙ h.classes word ∙ sym (names-same before line form.End is is_class word refl);
    current = λ c opened. absurd cc;
  }

  same_line : (word : List ℕ) (parsed : Form) (n : ℕ) (o : Option ClassAt) → current_line word (option_map (parsed_more parsed n) o) ≡ current_line word o
  same_line word parsed n None = refl
  same_line word parsed n (Some c) = refl

  -- any other
  parsed-noted : (parsed : Form) → form_of (words_of line) ≡ parsed → is_object parsed ≡ false → is_class parsed ≡ false → IsNoted (before ++ line ∷ []) (parsed_noted x (length before + 1) parsed)
  parsed-noted parsed is no_object no_class = record {
    objects = λ word. h.objects word ∙ sym (names-same before line parsed is is_object word no_object);
    classes = λ word.
        ap (option_or (line_of word x.classes)) (same_line word parsed (length before + 1) x.current)
        ∙ h.classes word ∙ sym (names-same before line parsed is is_class word no_class);
    current = λ c opened. of_current x.current refl c opened;
  }
    where
      of_current : (o : Option ClassAt) → x.current ≡ o → (c : ClassAt) → option_map (parsed_more parsed (length before + 1)) o ≡ Some c → c ≡ last_class c.name (before ++ line ∷ [])
      of_current None none c opened = absurd cc
      of_current (Some class) some c opened =
          let same = some-is (parsed_more parsed (length before + 1) class) c opened in
          let known = ap (parsed_more parsed (length before + 1)) (h.current class some) ∙ sym (class-next before line parsed is class.name no_class) in
          subst (λ (c : ClassAt). c ≡ last_class c.name (before ++ line ∷ [])) same known

  -- one line more
  by_form : (parsed : Form) → form_of (words_of line) ≡ parsed → (is_class parsed ≡ true → x.current ≡ None) → IsNoted (before ++ line ∷ []) (noted_by (length before + 1) (words_of line) parsed x)
  by_form form.Register is none = object-noted form.Register is refl refl (λ c. refl)
  by_form form.Counter is none = object-noted form.Counter is refl refl (λ c. refl)
  by_form form.Elements is none = object-noted form.Elements is refl refl (λ c. refl)
  by_form form.Class is none = class-noted is (none refl)
  by_form form.End is none = end-noted is x.current refl
  by_form form.Blank is none = parsed-noted form.Blank is refl refl
  by_form (form.Starts s) is none = parsed-noted (form.Starts s) is refl refl
  by_form (form.May s) is none = parsed-noted (form.May s) is refl refl
  by_form (form.Scope s) is none = parsed-noted (form.Scope s) is refl refl
  by_form (form.Policy s) is none = parsed-noted (form.Policy s) is refl refl
  by_form (form.Commit s) is none = parsed-noted (form.Commit s) is refl refl
  by_form (form.Delegation s) is none = parsed-noted (form.Delegation s) is refl refl
  by_form (form.Spawn s) is none = parsed-noted (form.Spawn s) is refl refl
  by_form (form.Split s) is none = parsed-noted (form.Split s) is refl refl
  by_form form.Unknown is none = parsed-noted form.Unknown is refl refl

  pub noted-next : (n : ℕ) → n ≡ length before + 1 → (is_class (form_of (words_of line)) ≡ true → x.current ≡ None)
      → IsNoted (before ++ line ∷ []) (noted_by n (words_of line) (form_of (words_of line)) x)
  noted-next n is none =
      subst (λ (k : ℕ). IsNoted (before ++ line ∷ []) (noted_by k (words_of line) (form_of (words_of line)) x)) (sym is) (by_form (form_of (words_of line)) refl none)
