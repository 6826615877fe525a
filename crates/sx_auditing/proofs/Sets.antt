-- Words that set auditors one after another.
use Rattle.std.proofs.Common.{◌≡◌, ℕ, zero, suc, ◌+◌, ◌<◌, ◌≤◌, Bool, true, false, if◌then◌else◌}
use Rattle.std.proofs.Common.{List, [], ◌∷◌, ◌++◌, map, length, take, drop, set, get_or, Some, None}
use Rattle.std.proofs.Common.{Ok, Err, ap, sym, refl, subst, ◌∙◌, arith}
use Rattle.std.specs.Prelude.{Option, option_map, Result, MatchOption}
use Rattle.std.specs.List.{AllByRecursion}
use Rattle.std.specs.Str.{bytes_eq}
use Rattle.std.proofs.lemmas.List.{take_more, take_all, drop_more, length-map, map-set, get_or-map}
use Rattle.sx_words.specs.declared.audit.Audit.{Audit}
use Rattle.sx_words.specs.Commands.{AuditWord}
use Rattle.sx_words.specs.View.{audit_view}
use Rattle.sx_steps.specs.declared.stop.Stop.{Stop}
use Rattle.sx_steps.specs.Refusal.{bad_word}
use Rattle.sx_audit.specs.declared.set_error.SetError.{SetError}
use Rattle.sx_audit.specs.declared.set_error.SetError.TheVariants as set_error
use Rattle.sx_auditing.specs.Naming.{Slot, set_to, set_first, Sets}
use Rattle.sx_auditing.specs.Setting.{HasOtherName, IsAuditorPlace, IsSetTo, IsSetFirst}
use Rattle.sx_auditing.proofs.Once.{all-joined}

pub record Mapped {A B : Type 0} (f : A → B) (o : Option A) (y : B) : Type 0 where
  pub it : A
  pub is : o ≡ Some it
  pub gives : f it ≡ y

pub mapped : {A B : Type 0} (f : A → B) (o : Option A) (y : B) → option_map f o ≡ Some y →
    Mapped f o y
mapped f None y e = absurd cc
mapped f (Some x) y e = record { it = x; is = refl; gives = cc }

module _ (a : AuditWord) (s : Slot) (slots : List Slot) where
  pub sets-this : bytes_eq s.auditor.kind.name a.kind ≡ true →
      set_first a (s ∷ slots) ≡ option_map (λ new. new ∷ slots) (set_to a.setting s)
  sets-this e = ap (λ (b : Bool). if b then option_map (λ new. new ∷ slots) (set_to a.setting s)
      else option_map (λ rest. s ∷ rest) (set_first a slots)) e

  pub sets-later : bytes_eq s.auditor.kind.name a.kind ≡ false →
      set_first a (s ∷ slots) ≡ option_map (λ rest. s ∷ rest) (set_first a slots)
  sets-later e = ap (λ (b : Bool). if b then option_map (λ new. new ∷ slots) (set_to a.setting s)
      else option_map (λ rest. s ∷ rest) (set_first a slots)) e

-- ---- the place of an auditor

-- one more that has another name
pub others-more : {A : Type 0} (f : A → Slot) (name : List ℕ) (items : List A) (i : ℕ) (x : A) →
    i < length items → x ≡ get_or items i x →
    AllByRecursion (HasOtherName name) (take i (map f items)) → HasOtherName name (f x) →
    AllByRecursion (HasOtherName name) (take (i + 1) (map f items))
others-more f name items i x h e others other =
    let within : i < length (map f items) = subst (λ (n : ℕ). i < n) (sym (length-map items f)) h in
    let here : get_or (map f items) i (f x) ≡ f x =
    get_or-map f items i x (f x) h ∙ ap f (sym e) in
    subst (AllByRecursion (HasOtherName name))
    (sym (take_more (map f items) i (f x) within
    ∙ ap (λ (s : Slot). take i (map f items) ++ s ∷ []) here))
    (all-joined (HasOtherName name) (take i (map f items)) (f x ∷ []) others (other, tt))

-- all of them have
pub others-all : {A : Type 0} (f : A → Slot) (name : List ℕ) (items : List A) (i : ℕ) →
    length items ≤ i → AllByRecursion (HasOtherName name) (take i (map f items)) →
    AllByRecursion (HasOtherName name) (map f items)
others-all f name items i h others =
    subst (AllByRecursion (HasOtherName name))
    (take_all i (map f items) (subst (λ (n : ℕ). n ≤ i) (sym (length-map items f)) h)) others

-- the first auditor with the name
pub place-here : {A : Type 0} (f : A → Slot) (name : List ℕ) (items : List A) (i : ℕ) (x : A) →
    i < length items → x ≡ get_or items i x →
    AllByRecursion (HasOtherName name) (take i (map f items)) →
    bytes_eq (f x).auditor.kind.name name ≡ true → IsAuditorPlace name (map f items) i
place-here f name items i x h e others named = record {
  within = subst (λ (n : ℕ). i < n) (sym (length-map items f)) h;
  one = f x;
  others = others;
  is = sym (get_or-map f items i x (f x) h ∙ ap f (sym e));
  named = named;
}

none-set : (a : AuditWord) (slots : List Slot) →
    AllByRecursion (HasOtherName a.kind) slots → set_first a slots ≡ None
none-set a [] h = refl
none-set a (s ∷ slots) h =
    sets-later a s slots h.0
    ∙ ap (option_map (λ rest. s ∷ rest)) (none-set a slots h.1)

place-set : (a : AuditWord) (slots : List Slot) (i : ℕ) (s : Slot) (o : Option Slot) →
    i < length slots → AllByRecursion (HasOtherName a.kind) (take i slots) →
    s ≡ get_or slots i s → bytes_eq s.auditor.kind.name a.kind ≡ true →
    set_to a.setting s ≡ o → set_first a slots ≡ option_map (λ t. set slots i t) o
place-set a [] i s o h others is named e = absurd (omega (arith, h))
place-set a (x ∷ slots) zero s o h others is named e =
    let same : x ≡ s = cc in
    sets-this a x slots (subst (λ (y : Slot). bytes_eq y.auditor.kind.name a.kind ≡ true)
    (sym same) named)
    ∙ ap (λ (y : Slot). option_map (λ new. new ∷ slots) (set_to a.setting y)) same
    ∙ ap (option_map (λ new. new ∷ slots)) e
place-set a (x ∷ slots) (suc i) s o h others is named e =
    sets-later a x slots others.0
    ∙ ap (option_map (λ rest. x ∷ rest))
    (place-set a slots i s o (omega (arith, h)) others.1 is named e)
    ∙ later o
  where
    later : (p : Option Slot) →
        option_map (λ rest. x ∷ rest) (option_map (λ t. set slots i t) p)
        ≡ option_map (λ t. x ∷ set slots i t) p
    later None = refl
    later (Some t) = refl

-- where there is no auditor of the kind, the word does not fit
pub first-missing : {A : Type 0} (f : A → Slot) (a : AuditWord) (ys items : List A) → ys ≡ items →
    AllByRecursion (HasOtherName a.kind) (map f ys) → set_first a (map f items) ≡ None
first-missing {A} f a ys items e h =
    none-set a (map f items)
    (subst (λ (zs : List A). AllByRecursion (HasOtherName a.kind) (map f zs)) e h)

module _ {A : Type 0} (f : A → Slot) (a : AuditWord) (items : List A) (i : ℕ) (x y : A)
    (e : x ≡ get_or items i x) (p : IsAuditorPlace a.kind (map f items) i) where
  within : i < length items
  within = subst (λ (n : ℕ). i < n) (length-map items f) p.within

  here : p.one ≡ f x
  here = p.is ∙ get_or-map f items i x p.one within ∙ ap f (sym e)

  -- or else it does what the setting does
  at-place : (result : Result (Unit {0}) SetError) → IsSetTo a.setting (f x) result (f y) →
      IsSetFirst a (map f items) result (map f (set items i y))
  at-place (Ok u) s =
      place-set a (map f items) i p.one (Some (f y)) p.within p.others p.is p.named
      (ap (set_to a.setting) here ∙ s)
      ∙ ap Some (sym (map-set f items i y))
  at-place (Err set_error.Bad) s =
      place-set a (map f items) i p.one None p.within p.others p.is p.named
      (ap (set_to a.setting) here ∙ s)
  at-place (Err set_error.Memory) s = tt

pub first-set : {A : Type 0} (f : A → Slot) (a : AuditWord) (ys items : List A) → ys ≡ items →
    (i : ℕ) (x y : A) → x ≡ get_or items i x → IsAuditorPlace a.kind (map f ys) i →
    (result : Result (Unit {0}) SetError) → IsSetTo a.setting (f x) result (f y) →
    IsSetFirst a (map f items) result (map f (set items i y))
first-set {A} f a ys items same i x y e p =
    at-place f a items i x y e (subst (λ (zs : List A). IsAuditorPlace a.kind (map f zs) i) same p)

-- ---- each word

-- what setting the rest answers, setting all answers
pub record Continues (all : List AuditWord) (old : List Slot) (rest : List AuditWord)
    (now : List Slot) : Type 0 where
  pub answers : (result : Result (List Slot) Stop) → Sets rest now result → Sets all old result

pub continues-all : (all : List AuditWord) (old : List Slot) → Continues all old all old
continues-all all old = record { answers = λ result s. s }

module _ (all rest : List AuditWord) (old now : List Slot) (a : AuditWord)
    (c : Continues all old (a ∷ rest) now) where
  pub continues-on : (new : List Slot) → set_first a now ≡ Some new → Continues all old rest new
  continues-on new e = record {
    answers = λ result s. c.answers result
        (subst (λ (o : Option (List Slot)). MatchOption o (result ≡ Err (bad_word a.word))
        (λ next. Sets rest next result)) (sym e) s);
  }

  abbrev stopped : Result (List Slot) Stop
  stopped = Err (bad_word a.word)

  pub continues-not : set_first a now ≡ None → Sets all old (Err (bad_word a.word))
  continues-not e =
      c.answers stopped
      (subst (λ (o : Option (List Slot)). MatchOption o (stopped ≡ stopped)
      (λ next. Sets rest next stopped)) (sym e) refl)

pub stops-here : (audits : List Audit) (i : ℕ) (x : Audit) → i < length audits →
    x ≡ get_or audits i x → (old now : List Slot) →
    Continues (map audit_view audits) old (map audit_view (drop i audits)) now →
    set_first (audit_view x) now ≡ None → (stop : Stop) → stop ≡ bad_word x.word →
    Sets (map audit_view audits) old (Err stop)
stops-here audits i x h e old now c none stop is =
    let next : drop i audits ≡ x ∷ drop (i + 1) audits =
    drop_more audits i x h ∙ ap (λ (y : Audit). y ∷ drop (i + 1) audits) (sym e) in
    subst (λ (s : Stop). Sets (map audit_view audits) old (Err s)) (sym is)
    (continues-not (map audit_view audits) (map audit_view (drop (i + 1) audits)) old now
    (audit_view x)
    (subst (λ (ws : List AuditWord). Continues (map audit_view audits) old ws now)
    (ap (map audit_view) next) c) none)

pub continues-end : (all : List AuditWord) (old now : List Slot) →
    Continues all old [] now → Sets all old (Ok now)
continues-end all old now c = c.answers (Ok now) refl
