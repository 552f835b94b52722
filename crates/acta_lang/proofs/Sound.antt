-- The declarations of lines without a fault are free of the faults of models: each line preserves this.
use Rattle.std.proofs.Common.{◌≡◌, ℕ, ◌+◌, ◌≤◌, ◌<◌, Bool, true, false, not, ◌&&◌, ◌||◌, ◌==◌, nat_lt, nat_le, inl, inr, Result, Ok, List, [], ◌∷◌, ◌++◌, map, filter, flat_map, fold, length, Option, Some, None, is_some, unwrap_or, option_map, refl, sym, ap, subst, ◌∙◌, true≢false, arith, length-append, cond}
use Rattle.std.specs.List.{list_any, list_all}
use Rattle.std.specs.Option.{option_or, option_map_or}
use Rattle.std.specs.Str.{bytes_eq}
use Rattle.std.proofs.lemmas.Bool.{or_parts, or_from, and_from, and_parts, leb-false, le-ltb, not-false, eqb-true, cases_Bool, false_from_ne_true}
use Rattle.std.proofs.lemmas.List.{append-nil, map-append}
use Rattle.std.proofs.lemmas.List.Folds.{list_any-append, list_all-append}
use Rattle.std.proofs.lemmas.Slice.Eq.{bytes_eq-Decides}
use Rattle.acta_table.specs.declared.dep.Dep.{Dep}
use Rattle.acta_table.specs.declared.dep.Dep.TheVariants.{Cd, Scd, Ad, Wd, Td, Ed, Cmd, Bd, Sd, Bcd, Bad, Wcd}
use Rattle.acta_table.specs.declared.model.Class.{Class}
use Rattle.acta_table.specs.declared.model.Kind.{Kind}
use Rattle.acta_table.specs.declared.model.Kind.TheVariants as kind
use Rattle.acta_table.specs.declared.model.Object.{Object}
use Rattle.acta_table.specs.declared.model.Parts.{Parts}
use Rattle.acta_table.specs.declared.policy.Policy.{Policy}
use Rattle.acta_table.specs.declared.policy.Policy.TheVariants.{Refuse}
use Rattle.acta_table.specs.declared.start_edges.StartEdge.{StartEdge}
use Rattle.acta_table.specs.Dependencies.{all_kinds, code_of, is_begin_kind}
use Rattle.acta_table.specs.declared.model.ModelFault.TheVariants.{NoClass, TooManyClasses, TooManyObjects, DuplicateName, BadName, BeginKindAtStart, HeirWithoutSpawn, BadPolicyKind}
use Rattle.acta_table.specs.Faults.{is_name, has_twice, has_begin_edge, has_begin_kind, lacks_parents, fault_if, lowest_fault}
use Rattle.acta_table.specs.Policies.{is_bad_policy}
use Rattle.acta_table.specs.Starts.{both_of, each_start_edge_once, is_listed, same_start_edge}
use Rattle.acta_table.specs.declared.limits.TheConstants.{MOST_CLASSES, MOST_OBJECTS}
use Rattle.acta_words.specs.Text.{is_word_among, lines_of, words_of}
use Rattle.acta_words.proofs.FirstLines.{first_line}
use Rattle.acta_lang.specs.declared.fault.AsmFault.{AsmFault}
use Rattle.acta_lang.specs.declared.fault.Code.{Code}
use Rattle.acta_lang.specs.declared.form.Form.{Form}
use Rattle.acta_lang.specs.declared.form.Form.TheVariants as form
use Rattle.acta_lang.specs.Drafts.{Draft, OpenClass, closed, extended, first_value, nothing_yet, opened, parts_of, with_closed, with_object, with_parsed}
use Rattle.acta_lang.specs.Faults.{object_names, class_names, wrong_place, begin_kind_at_start, bad_policy_kind, missing_end, missing_part, code_at}
use Rattle.acta_lang.specs.Forms.{form_of, name_in, value_in}
use Rattle.acta_lang.specs.Meaning.{judged, meaning}
use Rattle.acta_lang.proofs.NoCodes.{HasNoCode, no_test}
use Rattle.acta_lang.proofs.Turns.{meaning_from, after_is_from}

-- an open class: no edge at a start is of a begin kind, and its policy is allowed in a model
pub record IsFaultlessClass (c : OpenClass) : Type 0 where
  pub spawns : has_begin_edge c.spawn_edges ≡ false
  pub splits : has_begin_edge c.split_edges ≡ false
  pub policy : option_map_or is_bad_policy c.policy false ≡ false

-- the open class, if there is one, and room for it
abbrev pub IsFaultlessCurrent : ℕ → Option OpenClass → Type 0
IsFaultlessCurrent n None = Unit {0}
IsFaultlessCurrent n (Some c) = (n < MOST_CLASSES) × IsFaultlessClass c

-- the declarations of some lines, without faults of models, except that a class may be missing
pub record IsFaultless {A : Type 0} (d : Draft A) : Type 0 where
  pub objects_apart : has_twice (object_names d) ≡ false
  pub classes_apart : has_twice (class_names d) ≡ false
  pub objects_named : list_all is_name (object_names d) ≡ true
  pub classes_named : list_all is_name (class_names d) ≡ true
  pub few_objects : length d.objects ≤ MOST_OBJECTS
  pub few_classes : length d.classes ≤ MOST_CLASSES
  pub begins : list_any has_begin_kind d.classes ≡ false
  pub heirs : list_any lacks_parents d.classes ≡ false
  pub policies : list_any (λ c. is_bad_policy c.policy) d.classes ≡ false
  pub current : IsFaultlessCurrent (length d.classes) d.current

pub faultless_at : {A : Type 0} (d e : Draft A) → e ≡ d → IsFaultless d → IsFaultless e
faultless_at {A = A} d e same h = let P : Draft A → Type 0 = λ d. IsFaultless d in subst P (sym same) h

bytes_eq-sym : (xs ys : List ℕ) → bytes_eq xs ys ≡ false → bytes_eq ys xs ≡ false
bytes_eq-sym xs ys h =
    false_from_ne_true (bytes_eq ys xs) (λ e. true≢false (sym ((bytes_eq-Decides xs ys).1 (sym ((bytes_eq-Decides ys xs).0 e))) ∙ h))

-- a name that is not among the others goes after them
apart_with : (names : List (List ℕ)) (name : List ℕ) → has_twice names ≡ false → is_word_among names name ≡ false → has_twice (names ++ name ∷ []) ≡ false
apart_with [] name apart new = refl
apart_with (first ∷ names) name apart new =
    let parts = or_parts (list_any (bytes_eq first) names) (has_twice names) apart in
    let others = or_parts (bytes_eq name first) (list_any (bytes_eq name) names) new in
    or_from _ _
    (list_any-append (bytes_eq first) names (name ∷ []) ∙ or_from _ _ parts.0 (or_from _ _ (bytes_eq-sym name first others.0) refl))
    (apart_with names name parts.1 others.1)

-- an item after others is not among them
pub new_from_apart : (names : List (List ℕ)) (name : List ℕ) (more : List (List ℕ)) → has_twice (names ++ name ∷ more) ≡ false → is_word_among names name ≡ false
new_from_apart [] name more apart = refl
new_from_apart (first ∷ names) name more apart =
    let parts = or_parts (list_any (bytes_eq first) (names ++ name ∷ more)) (has_twice (names ++ name ∷ more)) apart in
    let among = or_parts (list_any (bytes_eq first) names) (list_any (bytes_eq first) (name ∷ more)) (sym (list_any-append (bytes_eq first) names (name ∷ more)) ∙ parts.0) in
    let other = or_parts (bytes_eq first name) (list_any (bytes_eq first) more) among.1 in
    or_from _ _ (bytes_eq-sym first name other.0) (new_from_apart names name more parts.1)

none_with : {X : Type 0} (p : X → Bool) (xs : List X) (x : X) → list_any p xs ≡ false → p x ≡ false → list_any p (xs ++ x ∷ []) ≡ false
none_with p xs x none also = list_any-append p xs (x ∷ []) ∙ or_from _ _ none (or_from _ _ also refl)

all_with : {X : Type 0} (p : X → Bool) (xs : List X) (x : X) → list_all p xs ≡ true → p x ≡ true → list_all p (xs ++ x ∷ []) ≡ true
all_with p xs x all also = list_all-append p xs (x ∷ []) ∙ and_from _ _ all (and_from _ _ also refl)

-- kinds of one code are one kind: both limit when a transaction begins, or neither
by_code : (k : Dep) → is_begin_kind k ≡ nat_lt 6 (code_of k)
by_code Cd = refl
by_code Scd = refl
by_code Ad = refl
by_code Wd = refl
by_code Td = refl
by_code Ed = refl
by_code Cmd = refl
by_code Bd = refl
by_code Sd = refl
by_code Bcd = refl
by_code Bad = refl
by_code Wcd = refl

same_limits : (e f : StartEdge) → same_start_edge e f ≡ true → is_begin_kind e.kind ≡ is_begin_kind f.kind
same_limits e f same =
    by_code e.kind ∙ ap (nat_lt 6) (eqb-true (code_of e.kind) (code_of f.kind) (and_parts _ _ same).0) ∙ sym (by_code f.kind)

listed_limits : (es : List StartEdge) (e : StartEdge) → is_listed es e ≡ true → has_begin_edge es ≡ false → is_begin_kind e.kind ≡ false
listed_limits [] e listed none = absurd (true≢false (sym listed))
listed_limits (f ∷ es) e listed none =
    let parts = or_parts (is_begin_kind f.kind) (has_begin_edge es) none in
    elim (cases_Bool (same_start_edge e f)) [
      | inl same ↦ same_limits e f same ∙ parts.0
      | inr other ↦ listed_limits es e (ap (λ b. b || is_listed es e) (sym other) ∙ listed) parts.1
    ]

none_kept : {X : Type 0} (p q : X → Bool) (xs : List X) → ((x : X) → q x ≡ true → p x ≡ false) → list_any p (filter q xs) ≡ false
none_kept p q [] out = refl
none_kept p q (x ∷ xs) out =
    elim (cases_Bool (q x)) [
      | inl kept ↦ ap (λ b. list_any p (cond b (x ∷ filter q xs) (filter q xs))) kept ∙ or_from _ _ (out x kept) (none_kept p q xs out)
      | inr left ↦ ap (λ b. list_any p (cond b (x ∷ filter q xs) (filter q xs))) left ∙ none_kept p q xs out
    ]

-- listed once, in order, edges are of the kinds that they were
still_none : (es : List StartEdge) → has_begin_edge es ≡ false → has_begin_edge (each_start_edge_once es) ≡ false
still_none es none = none_kept (λ e. is_begin_kind e.kind) (is_listed es) (flat_map both_of all_kinds) (λ e listed. listed_limits es e listed none)

policy_closed : (p : Option Policy) → option_map_or is_bad_policy p false ≡ false → is_bad_policy (unwrap_or p Refuse) ≡ false
policy_closed None h = refl
policy_closed (Some p) h = h

-- an object more
object_keeps : {A : Type 0} (d : Draft A) (name : List ℕ) (k : Kind) → is_name name ≡ true → is_word_among (object_names d) name ≡ false → nat_le MOST_OBJECTS (length d.objects) ≡ false
    → IsFaultless d → IsFaultless (with_object d name k)
object_keeps {A = A} d name k named new room h =
    let object : Object A = record { name = name; kind = k } in
    let names : object_names (with_object d name k) ≡ object_names d ++ name ∷ [] = map-append (λ o. o.name) d.objects (object ∷ []) in
    let few : length d.objects < MOST_OBJECTS = leb-false MOST_OBJECTS (length d.objects) room in
    record {
      objects_apart = ap has_twice names ∙ apart_with (object_names d) name h.objects_apart new;
      classes_apart = h.classes_apart;
      objects_named = ap (list_all is_name) names ∙ all_with is_name (object_names d) name h.objects_named named;
      classes_named = h.classes_named;
      few_objects = omega (arith, length-append d.objects (object ∷ []), few);
      few_classes = h.few_classes;
      begins = h.begins;
      heirs = h.heirs;
      policies = h.policies;
      current = h.current;
    }

-- a class that opens
class_keeps : {A : Type 0} (os : List (Object A)) (cs : List (Class A)) (o : Option OpenClass) (name : List ℕ) → is_some o ≡ false → is_name name ≡ true
    → is_word_among (class_names (record { objects = os; classes = cs; current = o })) name ≡ false → nat_le MOST_CLASSES (length cs) ≡ false
    → IsFaultless (record { objects = os; classes = cs; current = o }) → IsFaultless (record { objects = os; classes = cs; current = Some (opened name) })
class_keeps os cs (Some c) name outside named new room h = absurd (true≢false outside)
class_keeps {A = A} os cs None name outside named new room h =
    let before : List (List ℕ) = map (λ (c : Class A). c.name) cs in
    let same : before ++ [] ≡ before = append-nil before in
    record {
      objects_apart = h.objects_apart;
      classes_apart = apart_with before name (ap has_twice (sym same) ∙ h.classes_apart) (ap (λ names. is_word_among names name) (sym same) ∙ new);
      objects_named = h.objects_named;
      classes_named = all_with is_name before name (ap (list_all is_name) (sym same) ∙ h.classes_named) named;
      few_objects = h.few_objects;
      few_classes = h.few_classes;
      begins = h.begins;
      heirs = h.heirs;
      policies = h.policies;
      current = (leb-false MOST_CLASSES (length cs) room, record { spawns = refl; splits = refl; policy = refl });
    }

-- a class that closes
end_keeps : {A : Type 0} (os : List (Object A)) (cs : List (Class A)) (o : Option OpenClass) → option_map_or (λ c. lacks_parents {A = A} (closed c)) o false ≡ false
    → IsFaultless (record { objects = os; classes = cs; current = o }) → IsFaultless (with_closed (record { objects = os; classes = cs; current = o }) o)
end_keeps os cs None heirs h = h
end_keeps {A = A} os cs (Some c) heirs h =
    let class : Class A = closed c in
    let names : map (λ (c : Class A). c.name) (cs ++ class ∷ []) ++ [] ≡ map (λ (c : Class A). c.name) cs ++ c.name ∷ [] =
    append-nil (map (λ (c : Class A). c.name) (cs ++ class ∷ [])) ∙ map-append (λ (c : Class A). c.name) cs (class ∷ []) in
    let few : length cs < MOST_CLASSES = h.current.0 in
    record {
      objects_apart = h.objects_apart;
      classes_apart = ap has_twice names ∙ h.classes_apart;
      objects_named = h.objects_named;
      classes_named = ap (list_all is_name) names ∙ h.classes_named;
      few_objects = h.few_objects;
      few_classes = omega (arith, length-append cs (class ∷ []), few);
      begins = none_with has_begin_kind cs class h.begins (or_from _ _ (still_none c.spawn_edges h.current.1.spawns) (still_none c.split_edges h.current.1.splits));
      heirs = none_with lacks_parents cs class h.heirs heirs;
      policies = none_with (λ (c : Class A). is_bad_policy c.policy) cs class h.policies (policy_closed c.policy h.current.1.policy);
      current = tt;
    }

-- a class with one more part
parsed_keeps : {A : Type 0} (f : OpenClass → OpenClass) → ((c : OpenClass) → (f c).name ≡ c.name) → ((c : OpenClass) → IsFaultlessClass c → IsFaultlessClass (f c))
    → (os : List (Object A)) (cs : List (Class A)) (o : Option OpenClass)
    → IsFaultless (record { objects = os; classes = cs; current = o }) → IsFaultless (record { objects = os; classes = cs; current = option_map f o })
parsed_keeps f named keeps os cs None h = h
parsed_keeps {A = A} f named keeps os cs (Some c) h =
    let names : map (λ (c : Class A). c.name) cs ++ (f c).name ∷ [] ≡ map (λ (c : Class A). c.name) cs ++ c.name ∷ [] = ap (λ name. map (λ (c : Class A). c.name) cs ++ name ∷ []) (named c) in
    record {
      objects_apart = h.objects_apart;
      classes_apart = ap has_twice names ∙ h.classes_apart;
      objects_named = h.objects_named;
      classes_named = ap (list_all is_name) names ∙ h.classes_named;
      few_objects = h.few_objects;
      few_classes = h.few_classes;
      begins = h.begins;
      heirs = h.heirs;
      policies = h.policies;
      current = (h.current.0, keeps c h.current.1);
    }

-- a line without a code preserves it
pub keeps : {A : Type 0} (d : Draft A) (is_last : Bool) (line : List ℕ) (words : List (List ℕ)) (parsed : Form) → HasNoCode d is_last line words parsed → IsFaultless d → IsFaultless (extended d words parsed)
unfolding extended wrong_place begin_kind_at_start bad_policy_kind
keeps d is_last line words form.Blank clean h = parsed_keeps (λ c. c) (λ c. refl) (λ c k. k) d.objects d.classes d.current h
keeps d is_last line words form.Register clean h = object_keeps d (name_in words) (kind.Register (first_value (value_in words))) (not-false _ clean.named) (or_parts _ _ clean.new).0 (or_parts _ _ clean.room).0 h
keeps d is_last line words form.Counter clean h = object_keeps d (name_in words) (kind.Counter (first_value (value_in words))) (not-false _ clean.named) (or_parts _ _ clean.new).0 (or_parts _ _ clean.room).0 h
keeps d is_last line words form.Elements clean h = object_keeps d (name_in words) kind.Elements (not-false _ clean.named) (or_parts _ _ clean.new).0 (or_parts _ _ clean.room).0 h
keeps d is_last line words form.Class clean h = class_keeps d.objects d.classes d.current (name_in words) clean.place (not-false _ clean.named) clean.new clean.room h
keeps d is_last line words (form.Starts s) clean h = parsed_keeps (with_parsed (form.Starts s)) (λ c. refl) (λ c k. record { spawns = k.spawns; splits = k.splits; policy = k.policy }) d.objects d.classes d.current h
keeps d is_last line words (form.May s) clean h = parsed_keeps (with_parsed (form.May s)) (λ c. refl) (λ c k. record { spawns = k.spawns; splits = k.splits; policy = k.policy }) d.objects d.classes d.current h
keeps d is_last line words (form.Scope s) clean h = parsed_keeps (with_parsed (form.Scope s)) (λ c. refl) (λ c k. record { spawns = k.spawns; splits = k.splits; policy = k.policy }) d.objects d.classes d.current h
keeps d is_last line words (form.Policy p) clean h = parsed_keeps (with_parsed (form.Policy p)) (λ c. refl) (λ c k. record { spawns = k.spawns; splits = k.splits; policy = clean.policy }) d.objects d.classes d.current h
keeps d is_last line words (form.Commit s) clean h = parsed_keeps (with_parsed (form.Commit s)) (λ c. refl) (λ c k. record { spawns = k.spawns; splits = k.splits; policy = k.policy }) d.objects d.classes d.current h
keeps d is_last line words (form.Delegation s) clean h = parsed_keeps (with_parsed (form.Delegation s)) (λ c. refl) (λ c k. record { spawns = k.spawns; splits = k.splits; policy = k.policy }) d.objects d.classes d.current h
keeps d is_last line words (form.Spawn e) clean h = parsed_keeps (with_parsed (form.Spawn e)) (λ c. refl) (λ c k. record { spawns = none_with (λ e. is_begin_kind e.kind) c.spawn_edges e k.spawns clean.edge; splits = k.splits; policy = k.policy }) d.objects d.classes d.current h
keeps d is_last line words (form.Split e) clean h = parsed_keeps (with_parsed (form.Split e)) (λ c. refl) (λ c k. record { spawns = k.spawns; splits = none_with (λ e. is_begin_kind e.kind) c.split_edges e k.splits clean.edge; policy = k.policy }) d.objects d.classes d.current h
keeps d is_last line words form.End clean h = end_keeps d.objects d.classes d.current clean.heir h
keeps d is_last line words form.Unknown clean h = parsed_keeps (λ c. c) (λ c. refl) (λ c k. k) d.objects d.classes d.current h

-- before any line
pub nothing_faultless : {A : Type 0} → IsFaultless {A = A} nothing_yet
nothing_faultless = record {
  objects_apart = refl;
  classes_apart = refl;
  objects_named = refl;
  classes_named = refl;
  few_objects = omega arith;
  few_classes = omega arith;
  begins = refl;
  heirs = refl;
  policies = refl;
  current = tt;
}

-- no closed class has the name of the open class
new_current : {A : Type 0} (os : List (Object A)) (cs : List (Class A)) (o : Option OpenClass) → has_twice (map (λ c. c.name) cs ++ option_map_or (λ c. c.name ∷ []) o []) ≡ false
    → option_map_or (λ class. is_word_among (map (λ c. c.name) cs) class.name) o false ≡ false
new_current os cs None apart = refl
new_current {A = A} os cs (Some c) apart = new_from_apart (map (λ (c : Class A). c.name) cs) c.name [] apart

pub current_is_new : {A : Type 0} (d : Draft A) → IsFaultless d → option_map_or (λ class. is_word_among (map (λ c. c.name) d.classes) class.name) d.current false ≡ false
current_is_new d h = new_current d.objects d.classes d.current h.classes_apart

-- an empty list of classes fails at the last line
some_class : (is_empty other : Bool) → (other || true && is_empty) ≡ false → is_empty ≡ false
some_class is_empty other h = (or_parts other (true && is_empty) h).1

named_once : {A : Type 0} (cs : List (Class A)) (o : Option OpenClass) → is_some o ≡ false → (map (λ c. c.name) cs ++ option_map_or (λ c. c.name ∷ []) o []) ≡ map (λ c. c.name) cs
named_once cs (Some c) none = absurd (true≢false none)
named_once {A = A} cs None none = append-nil (map (λ (c : Class A). c.name) cs)

-- after the last line, the declarations are free of the faults of models
pub sound_end : {A : Type 0} (d : Draft A) → IsFaultless d → is_some d.current ≡ false → (length d.classes == 0) ≡ false → lowest_fault (parts_of d) ≡ None
sound_end d h closed some =
    let names = named_once d.classes d.current closed in
    let once = or_from (has_twice (map (λ o. o.name) d.objects)) (has_twice (map (λ c. c.name) d.classes)) h.objects_apart (ap has_twice (sym names) ∙ h.classes_apart) in
    let named = ap not (and_from (list_all is_name (map (λ o. o.name) d.objects)) (list_all is_name (map (λ c. c.name) d.classes)) h.objects_named (ap (list_all is_name) (sym names) ∙ h.classes_named)) in
    λ i. fold option_or None (
    fault_if (some i) NoClass
    ∷ fault_if (le-ltb MOST_CLASSES (length d.classes) h.few_classes i) TooManyClasses
    ∷ fault_if (le-ltb MOST_OBJECTS (length d.objects) h.few_objects i) TooManyObjects
    ∷ fault_if (once i) DuplicateName
    ∷ fault_if (named i) BadName
    ∷ fault_if (h.begins i) BeginKindAtStart
    ∷ fault_if (h.heirs i) HeirWithoutSpawn
    ∷ fault_if (h.policies i) BadPolicyKind
    ∷ [])

pub judged_ok : {X : Type 0} (n : ℕ) (o : Option Code) (rest : Result X AsmFault) (m : X) → judged n o rest ≡ Ok m → (o ≡ None) × (rest ≡ Ok m)
judged_ok n None rest m h = (refl, h)
judged_ok n (Some code) rest m h = absurd (cc)

ok_same : {X : Type 0} (m k : X) (r : Result X AsmFault) → r ≡ Ok m → r ≡ Ok k → m ≡ k
ok_same m k r h j = cc

-- the declarations of lines, after faultless ones, are free of the faults of models
pub sound_from : {A : Type 0} (n : ℕ) (d : Draft A) (line : List ℕ) (lines : List (List ℕ)) (m : Parts A) → IsFaultless d → meaning_from n d (line ∷ lines) ≡ Ok m → lowest_fault m ≡ None
unfolding meaning_from missing_end missing_part
sound_from n d line [] m h means =
    let words = words_of line in
    let parsed = form_of words in
    let behind = extended d words parsed in
    let parts = judged_ok n (code_at d true line) (Ok (parts_of behind)) m means in
    let none = no_test d true line words parsed parts.0 in
    ap lowest_fault (sym (ok_same (parts_of behind) m (Ok (parts_of behind)) refl parts.1))
    ∙ sound_end behind (keeps d true line words parsed none h) none.ended (some_class _ _ none.whole)
sound_from n d line (next ∷ lines) m h means =
    let words = words_of line in
    let parsed = form_of words in
    let behind = extended d words parsed in
    let parts = judged_ok n (code_at d (length (next ∷ lines) == 0) line) (meaning_from (n + 1) behind (next ∷ lines)) m means in
    sound_from (n + 1) behind next lines m (keeps d (length (next ∷ lines) == 0) line words parsed (no_test d (length (next ∷ lines) == 0) line words parsed parts.0) h) parts.1

-- so is the model of a text
pub is_sound : {A : Type 0} (text : List ℕ) (m : Parts A) → meaning text ≡ Ok m → lowest_fault m ≡ None
is_sound text m means =
    let first = first_line text in
    sound_from 1 nothing_yet _ _ m nothing_faultless (ap (meaning_from 1 nothing_yet) (sym first) ∙ sym (after_is_from [] (lines_of text)) ∙ means)
