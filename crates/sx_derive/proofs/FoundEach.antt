-- What holds of all that is given holds of what is found.
use Rattle.std.proofs.Common.{◌≡◌, ℕ, zero, suc, Bool, true, false, List, [], ◌∷◌, Option, subst}
use Rattle.sx_term.specs.Tree.{Tree}
use Rattle.sx_derive.specs.Walk.{Event, try, give, stop, Answer}
use Rattle.sx_derive.specs.Search.{EachGiven, Ending, found, are_wanted, found_when, walk}

module _ (P : Answer → Type 0) (wanted : Option (List Tree)) where
  found_one : (b : Bool) (x a : Answer) (rest : Ending) → P x → (rest ≡ found a → P a) → found_when b x rest ≡ found a → P a
  found_one true x a rest p later e = let same : x ≡ a = cc in subst P same p
  found_one false x a rest p later e = later e

  pub found_each : (budget : ℕ) (es : List (Event Answer)) (a : Answer) → EachGiven P es → walk wanted budget es ≡ found a → P a
  found_each budget [] a each e = cc
  found_each zero (try ∷ es) a each e = cc
  found_each (suc budget) (try ∷ es) a each e = found_each budget es a each e
  found_each zero (stop c ∷ es) a each e = cc
  found_each (suc budget) (stop c ∷ es) a each e = cc
  found_each zero (give x ∷ es) a each e = found_one (are_wanted wanted x.1) x a (walk wanted zero es) each.0 (found_each zero es a each.1) e
  found_each (suc budget) (give x ∷ es) a each e = found_one (are_wanted wanted x.1) x a (walk wanted (suc budget) es) each.0 (found_each (suc budget) es a each.1) e
