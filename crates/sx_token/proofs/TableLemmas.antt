-- The table of the literals, one literal after another.
use Rattle.std.proofs.Common.{◌≡◌, ℕ, ◌+◌, ◌<◌, ◌≤◌, List, ◌∷◌, length, cond, Bool, true, false, Option, Some, None, get_or, inl, inr, sym, refl, ap, ◌∙◌, arith}
use Rattle.std.specs.Prelude.{slice_get, Contains, IfSome, IfNone, slice_index}
use Rattle.std.specs.Str.{bytes_eq}
use Rattle.std.proofs.lemmas.Bool.{false≢true, cases_lt}
use Rattle.std.proofs.lemmas.Option.{slice_get-get_or, slice_get_read}
use Rattle.std.proofs.lemmas.Slice.Eq.{bytes_eq-Decides}

-- what the first n literals have put into the table
pub record TableBefore (literals : List (List ℕ)) (n : ℕ) (get : List ℕ → Option ℕ) (has : ℕ → Bool) (lengths : List ℕ) : Type 0 where
  pub found : (text : List ℕ) (i : ℕ) → get text ≡ Some i → slice_get literals i ≡ Some text
  pub none : (text : List ℕ) (j : ℕ) → get text ≡ None → j < n → slice_get literals j ≡ Some text → ⊥
  pub sized : (text : List ℕ) (j : ℕ) → j < n → slice_get literals j ≡ Some text → has (length text) ≡ true
  pub longest : (first : ℕ) (others : List ℕ) (j : ℕ) → j < n → slice_get literals j ≡ Some (first ∷ others) → first < 128 → length (first ∷ others) ≤ slice_index lengths first

pub found_if : (literals : List (List ℕ)) (text : List ℕ) (r m : Option ℕ) → r ≡ m → ((i : ℕ) → m ≡ Some i → slice_get literals i ≡ Some text) → IfSome r (λ i. slice_get literals i ≡ Some text)
found_if literals text None m e h = tt
found_if literals text (Some i) m e h = h i (sym e)

pub none_if : (A : Type 0) (r m : Option ℕ) → r ≡ m → (m ≡ None → A) → IfNone r A
none_if A None m e h = h (sym e)
none_if A (Some i) m e h = tt

pub table_none : (literals : List (List ℕ)) (get : List ℕ → Option ℕ) (has : ℕ → Bool) (lengths : List ℕ) → ((text : List ℕ) → get text ≡ None) → TableBefore literals 0 get has lengths
table_none literals get has lengths empty = record {
  found = λ text i e. let clash : None ≡ Some i = sym (empty text) ∙ e in cc;
  none = λ text j e lt. absurd (omega arith);
  sized = λ text j lt. absurd (omega arith);
  longest = λ first others j lt. absurd (omega arith);
}

-- what is found after one more literal
found_more : (literals : List (List ℕ)) (n : ℕ) (new text : List ℕ) (old : Option ℕ) (i : ℕ) (same : Bool) → (same ≡ true → new ≡ text) → slice_get literals n ≡ Some new
    → ((i : ℕ) → old ≡ Some i → slice_get literals i ≡ Some text) → cond same (Some n) old ≡ Some i → slice_get literals i ≡ Some text
found_more literals n new text old i true is at before e =
    let place : n ≡ i = cc in
    ap (slice_get literals) (sym place) ∙ at ∙ ap Some (is refl)
found_more literals n new text old i false is at before e = before i e

none_more : (literals : List (List ℕ)) (n j : ℕ) (new text : List ℕ) (old : Option ℕ) (same : Bool) → (new ≡ text → same ≡ true) → slice_get literals n ≡ Some new
    → (old ≡ None → j < n → slice_get literals j ≡ Some text → ⊥) → cond same (Some n) old ≡ None → j < n + 1 → slice_get literals j ≡ Some text → ⊥
none_more literals n j new text old true is at before e lt here = let clash : Some n ≡ None = e in cc
none_more literals n j new text old false is at before e lt here =
    elim (cases_lt j n) [
      | inl below ↦ before e below here
      | inr above ↦ (
          let last : j ≡ n = omega arith in
          let alike : Some new ≡ Some text = sym at ∙ ap (slice_get literals) (sym last) ∙ here in
          let texts : new ≡ text = cc in
          false≢true (is texts))
    ]

pub table_more : (literals : List (List ℕ)) (n : ℕ) (get later : List ℕ → Option ℕ) (has more : ℕ → Bool) (lengths longer : List ℕ) (new : List ℕ) → TableBefore literals n get has lengths → slice_get literals n ≡ Some new
    → ((text : List ℕ) → later text ≡ cond (bytes_eq new text) (Some n) (get text))
    → ((q : ℕ) → has q ≡ true → more q ≡ true)
    → more (length new) ≡ true
    → ((k : ℕ) → slice_index lengths k ≤ slice_index longer k)
    → ((first : ℕ) (others : List ℕ) → new ≡ first ∷ others → first < 128 → length new ≤ slice_index longer first)
    → TableBefore literals (n + 1) later more longer
table_more literals n get later has more lengths longer new before at updates keeps there grows covers = record {
  found = λ text i e. found_more literals n new text (get text) i (bytes_eq new text) (bytes_eq-Decides new text).0 at (before.found text) (sym (updates text) ∙ e);
  none = λ text j e lt here. none_more literals n j new text (get text) (bytes_eq new text) (bytes_eq-Decides new text).1 at (before.none text j) (sym (updates text) ∙ e) lt here;
  sized = λ text j lt here. elim (cases_lt j n) [
    | inl below ↦ keeps (length text) (before.sized text j below here)
    | inr above ↦ (
        let last : j ≡ n = omega arith in
        let alike : Some new ≡ Some text = sym at ∙ ap (slice_get literals) (sym last) ∙ here in
        let texts : new ≡ text = cc in
        ap (λ t. more (length t)) (sym texts) ∙ there)
  ];
  longest = λ first others j lt here small. elim (cases_lt j n) [
    | inl below ↦ (let old = before.longest first others j below here small in omega (arith, old, grows first))
    | inr above ↦ (
        let last : j ≡ n = omega arith in
        let alike : Some new ≡ Some (first ∷ others) = sym at ∙ ap (slice_get literals) (sym last) ∙ here in
        let texts : new ≡ first ∷ others = cc in
        omega (arith, covers first others texts small, ap length texts))
  ];
}

-- a key that was there is there after one more was put in
pub kept_key : (same old new : Bool) → new ≡ cond same true old → old ≡ true → new ≡ true
kept_key true old new e h = e
kept_key false old new e h = e ∙ h

-- a literal that is contained has a place
pub place_from_Contains : (literals : List (List ℕ)) (text : List ℕ) → Contains literals text → (j : ℕ) × (j < length literals) × (slice_get literals j ≡ Some text)
place_from_Contains literals text (j, lt, is) = (j, lt, slice_get-get_or literals j text lt ∙ ap Some is)

pub literal_at : (literals : List (List ℕ)) (i : ℕ) (literal text : List ℕ) → i < length literals → literal ≡ get_or literals i literal → text ≡ literal → slice_get literals i ≡ Some text
literal_at literals i literal text lt is value = slice_get_read literals (length literals) i literal refl lt is ∙ ap Some (sym value)
