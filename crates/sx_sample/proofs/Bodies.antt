-- The body of the sample module.
use Rattle.std.proofs.Common.{◌≡◌, ℕ, zero, suc, ◌+◌, ◌-◌, ◌*◌, ◌<◌, ◌≤◌, List, [], ◌∷◌, ◌++◌, length}
use Rattle.std.proofs.Common.{codes, ap, sym, refl, ◌∙◌, append_assoc, arith}
use Rattle.std.specs.List.{flat_map, join_with_byte, range_with_len}
use Rattle.std.proofs.lemmas.Grind.{flat_map-append}
use Rattle.std.proofs.lemmas.List.{append-nil, length-append}
use Rattle.sx_sample.specs.Samples.{numbered_name, binding_of, sample_tokens, sample_text}

-- a token, and a blank after it
abbrev pub blanked : List ℕ → List ℕ
blanked token = token ++ 32 ∷ []

-- the tokens that bind so many names from one on, with a blank after each
abbrev pub bindings : ℕ → ℕ → List ℕ
bindings k many = flat_map blanked (flat_map binding_of (range_with_len k many))

-- the lines before the body
abbrev pub head : List ℕ
head = codes "module Sample\nlanguage Lam\nuse Let\n---\n"

-- a blank after each but the last is one blank between them
joined : (tokens : List (List ℕ)) (last : List ℕ) →
    join_with_byte 32 (tokens ++ last ∷ []) ≡ flat_map blanked tokens ++ last
joined [] last = refl
joined (x ∷ []) last =
    sym (ap (λ (text : List ℕ). text ++ last) (append-nil (blanked x))
    ∙ append_assoc x (32 ∷ []) last)
joined (x ∷ y ∷ tokens) last =
    let more = flat_map blanked (y ∷ tokens) in
    ap (λ (text : List ℕ). x ++ 32 ∷ text) (joined (y ∷ tokens) last)
    ∙ sym (append_assoc (blanked x) more last ∙ append_assoc x (32 ∷ []) (more ++ last))

text-is : (n : ℕ) → head ++ ((bindings 1 n ++ numbered_name n) ++ 10 ∷ []) ≡ sample_text n
text-is n =
    let tokens = flat_map binding_of (range_with_len 1 n) in
    let body = joined tokens (numbered_name n) in
    ap (λ (text : List ℕ). head ++ text) (ap (λ (text : List ℕ). text ++ 10 ∷ []) (sym body)
    ∙ sym (append-nil (join_with_byte 32 (sample_tokens n) ++ 10 ∷ [])))

-- one name more is bound
pub bound-more : (text new total : List ℕ) (n i : ℕ) → i < n →
    new ≡ text ++ flat_map blanked (binding_of (i + 1)) → text ++ bindings (i + 1) (n - i) ≡ total →
    new ++ bindings (i + 1 + 1) (n - (i + 1)) ≡ total
bound-more text new total n i h e so_far =
    let left : suc (n - (i + 1)) ≡ n - i = omega (arith, h) in
    let here = flat_map blanked (binding_of (i + 1)) in
    let rest = flat_map binding_of (range_with_len (i + 1 + 1) (n - (i + 1))) in
    ap (λ (front : List ℕ). front ++ flat_map blanked rest) e
    ∙ append_assoc text here (flat_map blanked rest)
    ∙ ap (λ (end : List ℕ). text ++ end) (sym (flat_map-append blanked (binding_of (i + 1)) rest))
    ∙ ap (λ (m : ℕ). text ++ bindings (i + 1) m) left ∙ so_far

-- all are bound
pub all-bound : (text last : List ℕ) (n i : ℕ) → n ≤ i → last ≡ numbered_name n →
    text ++ bindings (i + 1) (n - i) ≡ head ++ bindings 1 n →
    (text ++ last) ++ 10 ∷ [] ≡ sample_text n
all-bound text last n i h e so_far =
    let none : n - i ≡ 0 = omega (arith, h) in
    let bound : text ≡ head ++ bindings 1 n =
    sym (append-nil text) ∙ ap (λ (m : ℕ). text ++ bindings (i + 1) m) (sym none) ∙ so_far in
    ap (λ (front : List ℕ). (front ++ last) ++ 10 ∷ []) bound
    ∙ ap (λ (end : List ℕ). ((head ++ bindings 1 n) ++ end) ++ 10 ∷ []) e
    ∙ ap (λ (front : List ℕ). front ++ 10 ∷ []) (append_assoc head (bindings 1 n) (numbered_name n))
    ∙ append_assoc head (bindings 1 n ++ numbered_name n) (10 ∷ []) ∙ text-is n

-- how many tokens bind so many names
many-tokens : (k many : ℕ) → length (flat_map binding_of (range_with_len k many)) ≡ 5 * many
many-tokens k zero = refl
many-tokens k (suc many) = let r = many-tokens (k + 1) many in omega (arith, r)

pub tokens-counted : (n : ℕ) → length (sample_tokens n) ≡ 5 * n + 1
tokens-counted n =
    length-append (flat_map binding_of (range_with_len 1 n)) (numbered_name n ∷ [])
    ∙ ap (λ (m : ℕ). m + 1) (many-tokens 1 n)
