-- Rows, one after the other.
use Rattle.std.proofs.Common.{◌≡◌, ℕ, Bool, true, false, List, [], ◌∷◌, ◌++◌, Option, Some, None, Result, Ok, Err, refl, sym, ap, ◌∙◌}
use Rattle.std.specs.Str.{bytes_eq}
use Rattle.std.proofs.lemmas.Slice.Eq.{bytes_eq-Decides}
use Rattle.std.proofs.lemmas.List.{append_cancel_left}
use Rattle.std.proofs.lemmas.Bool.Decides.{same_from_decides}
use Rattle.sx_lines.specs.Lines.{Lines, over, line}
use Rattle.sx_lines.specs.Words.{after}
use Rattle.sx_lines.specs.Rows.{has_key, distinct_rows}
use Rattle.sx_lines.proofs.WordLaws.{after_front, front_of}

-- ---- one row

pub row_some : (front text found name : List ℕ) → Some found ≡ after front text → bytes_eq found name ≡ bytes_eq text (front ++ name)
row_some front text found name e =
    let parts = front_of front text found (sym e) in
    let d = bytes_eq-Decides found name in
    let whole = bytes_eq-Decides text (front ++ name) in
    same_from_decides (bytes_eq found name) (bytes_eq text (front ++ name)) d
    (λ t. append_cancel_left front found name (sym parts ∙ whole.0 t), λ same. whole.1 (parts ∙ ap (λ (x : List ℕ). front ++ x) same))

none_test : (front text name : List ℕ) (test : Bool) → bytes_eq text (front ++ name) ≡ test → after front text ≡ None → false ≡ test
none_test front text name true e none =
    let same = (bytes_eq-Decides text (front ++ name)).0 e in
    let some : after front text ≡ Some name = ap (after front) same ∙ after_front front name in
    absurd cc
none_test front text name false e none = refl

pub row_none : (front text name : List ℕ) → None ≡ after front text → false ≡ bytes_eq text (front ++ name)
row_none front text name e = none_test front text name (bytes_eq text (front ++ name)) refl (sym e)

-- ---- the rows

module _ {A : Type 0} (key : A → List ℕ) (read : List ℕ → Option A) (seen : List A) (lines : Lines) (total : Result (List A × Lines) ℕ) (so_far : distinct_rows key read seen lines ≡ total) where
  pub one_row : (n : ℕ) (text rest : List ℕ) (more : Lines) (x : A) → lines ≡ line n text rest more → Some x ≡ read text → has_key key seen (key x) ≡ false → distinct_rows key read (seen ++ x ∷ []) more ≡ total
  unfolding distinct_rows
  one_row n text rest more x e is fresh =
      let step : distinct_rows key read seen lines ≡ distinct_rows key read (seen ++ x ∷ []) more = rw (e, ← is) (rw fresh refl) in
      sym step ∙ so_far

  pub row_twice : (n : ℕ) (text rest : List ℕ) (more : Lines) (x : A) → lines ≡ line n text rest more → Some x ≡ read text → has_key key seen (key x) ≡ true → total ≡ Err n
  unfolding distinct_rows
  row_twice n text rest more x e is twice =
      let step : distinct_rows key read seen lines ≡ Err n = rw (e, ← is) (rw twice refl) in
      sym so_far ∙ step

  pub rows_end : (n : ℕ) (text rest : List ℕ) (more : Lines) → lines ≡ line n text rest more → None ≡ read text → total ≡ Ok (seen, lines)
  unfolding distinct_rows
  rows_end n text rest more e none =
      let step : distinct_rows key read seen (line n text rest more) ≡ Ok (seen, line n text rest more) = rw (← none) refl in
      sym so_far ∙ ap (distinct_rows key read seen) e ∙ step ∙ ap (λ (x : Lines). Ok (seen, x)) (sym e)

  pub rows_over : (n : ℕ) → lines ≡ over n → total ≡ Ok (seen, lines)
  unfolding distinct_rows
  rows_over n e = sym so_far ∙ ap (distinct_rows key read seen) e ∙ ap (λ (x : Lines). Ok (seen, x)) (sym e)
