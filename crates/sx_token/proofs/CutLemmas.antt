-- A cutting that goes on at its end.
use Rattle.std.proofs.Common.{◌≡◌, ℕ, ◌-◌, ◌≤◌, List, [], ◌∷◌, ◌++◌, length, take, drop, Bool, Option, Some, None, sym, refl, ap, ◌∙◌, subst, length-append, length-drop, take-append-drop, arith}
use Rattle.std.specs.Str.{IsUtf8}
use Rattle.std.proofs.lemmas.Str.{IsUtf8-drop}
use Rattle.sx_term.specs.declared.mark.Mark.{Mark}
use Rattle.sx_term.specs.Cutting.{Cuts, done, skip, piece, Skips, Stands, StandsAt, Piece, Outcome}
use Rattle.sx_term.specs.Cutting.{IsOutcome, AreDistinct}
use Rattle.std.specs.Prelude.{IfSome}
use Rattle.sx_term.proofs.CutLaws.{IsOutcome-same}
use Rattle.sx_token.specs.Front.{AreWholeCharacters}

-- the text up to the rest is cut into these tokens
pub record CutBefore (literals : List (List ℕ)) (metas : Bool) (text : List ℕ) (ts : List Piece) (rest : List ℕ) : Type 0 where
  pub cuts : Cuts literals metas (length text) text ts rest
  pub few : length ts ≤ 10000
  pub fits : length rest ≤ length text
  pub utf8 : IsUtf8 rest

module _ {literals : List (List ℕ)} {metas : Bool} {size : ℕ} where
  pub Cuts-skip : {text rest more : List ℕ} {ts : List Piece} → Cuts literals metas size text ts rest → Skips rest more → Cuts literals metas size text ts more
  Cuts-skip done k = skip k done
  Cuts-skip (skip l c) k = skip l (Cuts-skip c k)
  Cuts-skip (piece p c) k = piece p (Cuts-skip c k)

  pub Cuts-piece : {text rest more : List ℕ} {ts : List Piece} (t : Piece) → Cuts literals metas size text ts rest → StandsAt literals metas size t rest more → Cuts literals metas size text (ts ++ t ∷ []) more
  Cuts-piece t done s = piece s done
  Cuts-piece t (skip l c) s = skip l (Cuts-piece t c s)
  Cuts-piece t (piece p c) s = piece p (Cuts-piece t c s)

module _ (literals : List (List ℕ)) (metas : Bool) (text : List ℕ) where
  pub cut_none : IsUtf8 text → CutBefore literals metas text [] text
  cut_none utf8 = record { cuts = done; few = omega arith; fits = omega arith; utf8 = utf8 }

  pub cut_skip : (ts : List Piece) (rest after : List ℕ) (n : ℕ) → CutBefore literals metas text ts rest → AreWholeCharacters rest n × Skips rest (drop n rest) → after ≡ drop n rest → CutBefore literals metas text ts after
  cut_skip ts rest after n before is e = subst (CutBefore literals metas text ts) (sym e) (record {
    cuts = Cuts-skip before.cuts is.1;
    few = before.few;
    fits = omega (arith, before.fits, length-drop n rest);
    utf8 = IsUtf8-drop rest n before.utf8 is.0.1;
  })

  stands_at : (rest : List ℕ) (t : Piece) (n : ℕ) → length rest ≤ length text → n ≤ length rest → Stands literals metas t.mark (take n rest) (drop n rest) → t.text ≡ take n rest
      → t.from ≡ length text - length rest → t.to ≡ length text - length (drop n rest) → StandsAt literals metas (length text) t rest (drop n rest)
  stands_at rest t n fits within is token from to = record {
    split = sym (take-append-drop n rest) ∙ ap (λ a. a ++ drop n rest) (sym token);
    stands = subst (λ a. Stands literals metas t.mark a (drop n rest)) (sym token) is;
    from = omega (arith, from, fits);
    to = omega (arith, to, fits, length-drop n rest);
  }

  pub cut_token : (ts us : List Piece) (rest after : List ℕ) (t : Piece) (n : ℕ) → CutBefore literals metas text ts rest → AreWholeCharacters rest n × Stands literals metas t.mark (take n rest) (drop n rest)
      → t.text ≡ take n rest → after ≡ drop n rest → t.from ≡ length text - length rest → t.to ≡ length text - length after → (length ts ≡ 10000 → ⊥) → us ≡ ts ++ t ∷ [] → CutBefore literals metas text us after
  cut_token ts us rest after t n before is token e from to room more =
      let ends : t.to ≡ length text - length (drop n rest) = to ∙ ap (λ a. length text - length a) e in
      let there : CutBefore literals metas text (ts ++ t ∷ []) (drop n rest) = record {
        cuts = Cuts-piece t before.cuts (stands_at rest t n before.fits is.0.1.0 is.1 token from ends);
        few = omega (arith, before.few, room, length-append ts (t ∷ []));
        fits = omega (arith, before.fits, length-drop n rest);
        utf8 = IsUtf8-drop rest n before.utf8 is.0.1;
      } in
      subst (λ v. CutBefore literals metas text v after) (sym more) (subst (CutBefore literals metas text (ts ++ t ∷ [])) (sym e) there)

  pub cut_many : (ts : List Piece) (rest : List ℕ) (mark : Mark) (n : ℕ) → CutBefore literals metas text ts rest → AreWholeCharacters rest n × Stands literals metas mark (take n rest) (drop n rest) → length ts ≡ 10000
      → (us : List Piece) × (more : List ℕ) × (length us ≡ 10001) × Cuts literals metas (length text) text us more
  cut_many ts rest mark n before is full =
      let t : Piece = record { mark = mark; text = take n rest; from = length text - length rest; to = length text - length (drop n rest) } in
      (ts ++ t ∷ [], drop n rest, omega (arith, full, length-append ts (t ∷ [])), Cuts-piece t before.cuts (stands_at rest t n before.fits is.0.1.0 is.1 refl refl refl))

-- an answer that holds is the only one that does
pub only_answer : (literals : List (List ℕ)) (metas : Bool) (text bytes : List ℕ) (r : Option Outcome) → AreDistinct literals → text ≡ bytes → IfSome r (IsOutcome literals metas text)
    → (o : Outcome) → IsOutcome literals metas bytes o → IfSome r (λ answer. answer ≡ o)
only_answer literals metas text bytes None distinct e h o is = tt
only_answer literals metas text bytes (Some answer) distinct e h o is = IsOutcome-same literals metas bytes distinct answer o (subst (λ t. IsOutcome literals metas t answer) e h) is
