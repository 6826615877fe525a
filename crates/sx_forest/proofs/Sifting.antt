-- Lists of which some elements are left out.
use Rattle.std.proofs.Common.{◌≡◌, List, [], ◌∷◌, ◌++◌, inl, inr, ⊎_elim, refl, sym, subst, take, Contains, arith}
use Rattle.sx_grammar.specs.Tally.{Among, EachOnce}
use Rattle.sx_grammar.proofs.Finding.{is_head, past_head, head_or_rest}

-- the second list has those elements of the first that have the property
pub data Sifted {X : Type 0} (P : X → Type 0) : List X → List X → Type 0 where
  sift_none : Sifted P [] []
  sift_in : {xs ys : List X} {x : X} → P x → Sifted P xs ys → Sifted P (x ∷ xs) (x ∷ ys)
  sift_out : {xs ys : List X} {x : X} → (P x → ⊥) → Sifted P xs ys → Sifted P (x ∷ xs) ys

module _ {X : Type 0} (P : X → Type 0) where
  pub sift_more : {xs ys : List X} → Sifted P xs ys → (x : X) → P x → Sifted P (xs ++ x ∷ []) (ys ++ x ∷ [])
  sift_more sift_none x p = sift_in p sift_none
  sift_more (sift_in q s) x p = sift_in q (sift_more s x p)
  sift_more (sift_out q s) x p = sift_out q (sift_more s x p)

  pub sift_less : {xs ys : List X} → Sifted P xs ys → (x : X) → (P x → ⊥) → Sifted P (xs ++ x ∷ []) ys
  sift_less sift_none x p = sift_out p sift_none
  sift_less (sift_in q s) x p = sift_in q (sift_less s x p)
  sift_less (sift_out q s) x p = sift_out q (sift_less s x p)

  gone : (x : X) → Contains [] x → ⊥
  gone x there = let low = there.1 in omega arith

  pub sifted_only : {xs ys : List X} → Sifted P xs ys → (y : X) → Contains ys y → Contains xs y × P y
  sifted_only sift_none y there = absurd (gone y there)
  sifted_only (sift_in {xs = xs} {ys = ys} {x = x} p s) y there =
      ⊎_elim (λ e. (subst (Contains (x ∷ xs)) e (is_head x xs), subst P e p)) (λ h. let o = sifted_only s y h in (past_head x xs y o.0, o.1)) (head_or_rest x ys y there)
  sifted_only (sift_out {xs = xs} {x = x} p s) y there = let o = sifted_only s y there in (past_head x xs y o.0, o.1)

  pub sifted_every : {xs ys : List X} → Sifted P xs ys → (y : X) → Contains xs y → P y → Contains ys y
  sifted_every sift_none y there p = absurd (gone y there)
  sifted_every (sift_in {xs = xs} {ys = ys} {x = x} q s) y there p =
      ⊎_elim (λ e. subst (Contains (x ∷ ys)) e (is_head x ys)) (λ h. past_head x ys y (sifted_every s y h p)) (head_or_rest x xs y there)
  sifted_every (sift_out {xs = xs} {x = x} q s) y there p =
      ⊎_elim (λ e. absurd (q (subst P (sym e) p))) (λ h. sifted_every s y h p) (head_or_rest x xs y there)

  sifted_among : {xs ys : List X} → Sifted P xs ys → (y : X) → Among y ys → Among y xs
  sifted_among sift_none y h = absurd h
  sifted_among (sift_in q s) y (inl e) = inl e
  sifted_among (sift_in q s) y (inr h) = inr (sifted_among s y h)
  sifted_among (sift_out q s) y h = inr (sifted_among s y h)

  pub sifted_once : {xs ys : List X} → Sifted P xs ys → EachOnce xs → EachOnce ys
  sifted_once sift_none once = tt
  sifted_once (sift_in {x = x} q s) once = ((λ h. once.0 (sifted_among s x h)), sifted_once s once.1)
  sifted_once (sift_out q s) once = sifted_once s once.1

pub none_taken : {X : Type 0} (xs : List X) → take 0 xs ≡ []
none_taken [] = refl
none_taken (x ∷ xs) = refl
