-- Elements of a list that are found by their hashes.
use Rattle.std.proofs.Common.{◌≡◌, ℕ, List, [], ◌∷◌, ◌++◌, map, sym, ap, ◌∙◌}
use Rattle.std.proofs.lemmas.List.{map_push}

-- one more element
pub hashed_more : {T : Type 0} (hash_of : T → ℕ) (xs new : List T) (hashes more : List ℕ) (x : T) (hash : ℕ) → hashes ≡ map hash_of xs → hash ≡ hash_of x →
    new ≡ xs ++ x ∷ [] → more ≡ hashes ++ hash ∷ [] → more ≡ map hash_of new
hashed_more hash_of xs new hashes more x hash hashed is e f =
    f ∙ (λ i. hashed i ++ is i ∷ []) ∙ sym (map_push hash_of xs x) ∙ ap (map hash_of) (sym e)
