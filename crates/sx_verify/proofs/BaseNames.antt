-- The first name that is not the one due, and the first row that does not fit.
use Rattle.std.proofs.Common.{◌≡◌, ◌⊎◌, inl, inr, ℕ, zero, suc, ◌+◌, ◌-◌, ◌<◌, ◌≤◌, List, []}
use Rattle.std.proofs.Common.{◌∷◌, map, length, get_or, refl, sym, ap, ◌∙◌, subst, arith}
use Rattle.std.specs.Prelude.{Option, Some, None, option_map, slice_get}
use Rattle.std.proofs.lemmas.List.{length-map}
use Rattle.std.proofs.lemmas.Option.{slice_get-map, slice_get_past, slice_get_read}
use Rattle.sx_interface.specs.declared.interfaces.ImportMark.{ImportMark}
use Rattle.sx_interface.specs.Headers.{HeaderParts}
use Rattle.sx_interface.specs.Interfaces.{InterfaceParts, MarkData}
use Rattle.sx_interface.specs.InterfaceView.{mark_view}
use Rattle.sx_verify.specs.BaseFits.{mark_names, IsOtherName, IsFirstNumber, IsBaseOf, IsMisfit}

some_same : (a b : List ℕ) → Some a ≡ Some b → a ≡ b
some_same a b e = cc

none_some : (a : List ℕ) → None ≡ Some a → ⊥
none_some a e = cc

pub less_or_is : (m n : ℕ) → m < n + 1 → (m < n) ⊎ (m ≡ n)
less_or_is zero zero lt = inr refl
less_or_is zero (suc n) lt = inl (omega arith)
less_or_is (suc m) zero lt = absurd (omega (arith, lt))
less_or_is (suc m) (suc n) lt =
    elim (less_or_is m n (omega (arith, lt)))
    [ inl h ↦ inl (omega (arith, h)) | inr e ↦ inr (ap suc e) ]

-- ---- names

-- the names before this place are those due there
abbrev pub AreSameTo : (names due : List (List ℕ)) → ℕ → Type 0
AreSameTo names due i = (other : ℕ) → other < i → slice_get names other ≡ slice_get due other

pub all_same : (names due : List (List ℕ)) → AreSameTo names due (length names) →
    length due ≤ length names → names ≡ due
all_same [] [] same le = refl
all_same [] (d ∷ due) same le = absurd (omega (arith, le))
all_same (n ∷ names) [] same le = absurd (none_some n (sym (same 0 (omega arith))))
all_same (n ∷ names) (d ∷ due) same le =
    let head = some_same n d (same 0 (omega arith)) in
    let tail = all_same names due (λ k lt. same (suc k) (omega (arith, lt))) (omega (arith, le)) in
    λ i. head i ∷ tail i

pub same_next : (names due : List (List ℕ)) (i : ℕ) → AreSameTo names due i →
    slice_get names i ≡ slice_get due i → AreSameTo names due (i + 1)
same_next names due i same here other lt =
    elim (less_or_is other i lt) [
      | inl h ↦ same other h
      | inr e ↦ subst (λ (k : ℕ). slice_get names k ≡ slice_get due k) (sym e) here
    ]

pub first_here : (names due : List (List ℕ)) (i : ℕ) → AreSameTo names due i → IsOtherName names due i →
    IsFirstNumber (IsOtherName names due) i
first_here names due i same other =
    record { here = other; before = λ k lt differs. differs (same k lt) }

-- ---- marks

past : (xs : List (List ℕ)) (i : ℕ) → slice_get xs i ≡ None → length xs ≤ i
past [] i e = omega arith
past (x ∷ xs) zero e = absurd (none_some x (sym e))
past (x ∷ xs) (suc i) e = omega (arith, past xs i e)

module _ (marks : List ImportMark) where
  abbrev due : List (List ℕ)
  due = mark_names (map mark_view marks)

  due_of : (i : ℕ) (x : Option ImportMark) → slice_get marks i ≡ x →
      slice_get due i ≡ option_map (λ (m : MarkData). m.name) (option_map mark_view x)
  due_of i x e = slice_get-map (λ (m : MarkData). m.name) (map mark_view marks) i
      ∙ ap (option_map (λ (m : MarkData). m.name))
      (slice_get-map mark_view marks i ∙ ap (option_map mark_view) e)

  pub due_at : (i : ℕ) (m : ImportMark) → slice_get marks i ≡ Some m → slice_get due i ≡ Some m.name
  due_at i m e = due_of i (Some m) e

  pub due_none : (i : ℕ) → slice_get marks i ≡ None → slice_get due i ≡ None
  due_none i e = due_of i None e

  module _ (names : List (List ℕ)) (i : ℕ) (name : List ℕ) (lt : i < length names)
      (is : name ≡ get_or names i name) where
    name_at : slice_get names i ≡ Some name
    name_at = slice_get_read names (length names) i name refl lt is

    pub same_at : (m : ImportMark) → slice_get marks i ≡ Some m → name ≡ m.name →
        slice_get names i ≡ slice_get due i
    same_at m at same = name_at ∙ ap Some same ∙ sym (due_at i m at)

    pub other_at : (m : ImportMark) → slice_get marks i ≡ Some m → (name ≡ m.name → ⊥) →
        IsOtherName names due i
    other_at m at differs same =
        differs (some_same name m.name (sym name_at ∙ same ∙ due_at i m at))

    pub none_at : slice_get marks i ≡ None → IsOtherName names due i
    none_at at same = none_some name (sym (due_none i at) ∙ sym same ∙ name_at)

  due_length : length due ≡ length marks
  due_length = length-map (map mark_view marks) (λ (m : MarkData). m.name) ∙ length-map marks mark_view

  -- past the names an import is missing
  pub missing : (names : List (List ℕ)) → length names < length marks →
      IsOtherName names due (length names)
  missing names lt same = some_there (slice_get due (length names)) refl
    where
      some_there : (x : Option (List ℕ)) → slice_get due (length names) ≡ x → ⊥
      some_there None e = absurd (let far = past due (length names) e in
          omega (arith, far, due_length, lt))
      some_there (Some n) e =
          none_some n (sym (slice_get_past names (length names) (omega arith)) ∙ same ∙ e)

  pub no_more : (names : List (List ℕ)) → length marks ≤ length names → length due ≤ length names
  no_more names le = omega (arith, due_length, le)

-- ---- rows

module _ (it : InterfaceParts) (header : HeaderParts) where
  pub misfit_language : (header.language ≡ it.language.name → ⊥) → IsFirstNumber (IsMisfit it header) 1
  misfit_language differs = record { here = differs; before = none_before }
    where
      none_before : (other : ℕ) → other < 1 → IsMisfit it header other → ⊥
      none_before zero lt h = h
      none_before (suc other) lt h = omega (arith, lt)

  module _ (same : header.language ≡ it.language.name) where
    before_names : (other : ℕ) → other < 2 → IsMisfit it header other → ⊥
    before_names zero lt h = h
    before_names (suc zero) lt h = h same
    before_names (suc (suc other)) lt h = omega (arith, lt)

    pub misfit_use : (header.uses ≡ [] → ⊥) → IsFirstNumber (IsMisfit it header) 2
    misfit_use some = record { here = inl (positive header.uses some); before = before_names }
      where
        positive : (uses : List (List ℕ)) → (uses ≡ [] → ⊥) → 0 < length uses
        positive [] some = absurd (some refl)
        positive (u ∷ uses) some = omega arith

    module _ (none : header.uses ≡ []) where
      other_here : (row : ℕ) → IsOtherName header.imports (mark_names it.imports) row →
          IsMisfit it header (suc (suc row))
      other_here row h = inr (
        subst (λ (uses : List (List ℕ)). length uses ≤ row) (sym none) (omega arith),
        subst (λ (uses : List (List ℕ)). IsOtherName header.imports (mark_names it.imports)
            (row - length uses)) (sym none)
            (let zero_less : row - 0 ≡ row = omega arith in
            subst (λ (k : ℕ). IsOtherName header.imports (mark_names it.imports) k) (sym zero_less) h),
      )

      other_there : (row : ℕ) → IsMisfit it header (suc (suc row)) →
          IsOtherName header.imports (mark_names it.imports) row
      other_there row (inl h) =
          absurd (let k = subst (λ (uses : List (List ℕ)). row < length uses) none h in
          omega (arith, k))
      other_there row (inr (le, h)) =
          let zero_less : row - 0 ≡ row = omega arith in
          subst (λ (k : ℕ). IsOtherName header.imports (mark_names it.imports) k) zero_less
          (subst (λ (uses : List (List ℕ)). IsOtherName header.imports (mark_names it.imports)
          (row - length uses)) none h)

      misfit_row : (number : ℕ) → IsFirstNumber (IsOtherName header.imports (mark_names it.imports)) number →
          IsFirstNumber (IsMisfit it header) (suc (suc number))
      misfit_row number first = record { here = other_here number first.here; before = none_before }
        where
          none_before : (other : ℕ) → other < suc (suc number) → IsMisfit it header other → ⊥
          none_before zero lt h = h
          none_before (suc zero) lt h = h same
          none_before (suc (suc other)) lt h =
              first.before other (omega (arith, lt)) (other_there other h)

      pub misfit_import : (number : ℕ) →
          IsFirstNumber (IsOtherName header.imports (mark_names it.imports)) number →
          IsFirstNumber (IsMisfit it header) (2 + number)
      misfit_import number first =
          let two : suc (suc number) ≡ 2 + number = omega arith in
          subst (λ (row : ℕ). IsFirstNumber (IsMisfit it header) row) two (misfit_row number first)

      pub fits_all : header.imports ≡ mark_names it.imports → IsBaseOf it header
      fits_all imports = record { language = same; uses = none; imports = imports }
