-- The sample module: so many names, each bound to the one before it.
use Rattle.std.specs.Prelude.{ℕ, ◌-◌, ◌==◌, if◌then◌else◌, List, [], ◌∷◌, ◌++◌, codes}
use Rattle.std.specs.Fmt.{decimal}
use Rattle.std.specs.List.{flat_map, join_with_byte, range_with_len}

-- the name with this number
abbrev pub numbered_name : ℕ → List ℕ
numbered_name k = codes "v" ++ decimal k

-- what it is bound to: the first to 1, and each other to the name before it
abbrev pub bound_of : ℕ → List ℕ
bound_of k = if k == 1 then codes "1" else numbered_name (k - 1)

-- the tokens that bind it
abbrev pub binding_of : ℕ → List (List ℕ)
binding_of k = codes "let" ∷ numbered_name k ∷ codes "=" ∷ bound_of k ∷ codes "in" ∷ []

-- the tokens of the body: those that bind the names from 1 on, and the last name
abbrev pub sample_tokens : ℕ → List (List ℕ)
sample_tokens n = flat_map binding_of (range_with_len 1 n) ++ numbered_name n ∷ []

-- the lines of the module's file, the body with one blank between its tokens
abbrev pub lines_of : ℕ → List (List ℕ)
lines_of n = codes "module Sample" ∷ codes "language Lam" ∷ codes "use Let" ∷ codes "---"
    ∷ join_with_byte 32 (sample_tokens n) ∷ []

-- the text of the module's file
abbrev pub sample_text : ℕ → List ℕ
sample_text n = flat_map (λ line. line ++ 10 ∷ []) (lines_of n)
