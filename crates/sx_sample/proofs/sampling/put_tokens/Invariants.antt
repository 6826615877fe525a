use Rattle.std.proofs.Common.{◌≡◌, ◌++◌, ◌∷◌, [], map, drop}
use Rattle.std.specs.List.{flat_map}
use Rattle.sx_sample.proofs.sampling.put_tokens.Given as goal

abbrev pub invariant-loop-token : goal.invariant-loop-token
invariant-loop-token l =
    l.into.items
    ++ flat_map (λ token. token ++ 32 ∷ []) (map (λ t. t.now) (drop l.token-index l.tokens))
    ≡ l.fn.into.items ++ flat_map (λ token. token ++ 32 ∷ []) (map (λ t. t.now) l.tokens)
