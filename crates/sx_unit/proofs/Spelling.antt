-- The line of tokens, token by token.
use Rattle.std.proofs.Common.{◌≡◌, ℕ, ◌+◌, ◌<◌, Some, List, [], ◌∷◌, ◌++◌, drop, get_or, length}
use Rattle.std.proofs.Common.{ap, ◌∙◌, sym}
use Rattle.std.proofs.lemmas.List.{drop_more, append_assoc}
use Rattle.sx_lines.specs.Words.{after}
use Rattle.sx_lines.proofs.WordLaws.{front_of}
use Rattle.sx_token.specs.declared.token.Token.{Token}
use Rattle.sx_unit.specs.Known.{behind_blanks, token_line}

-- behind a blank and the token stands what is behind the tokens before it
pub one_more : (ts : List Token) (i : ℕ) (t : Token) (rest more next end : List ℕ) → i < length ts →
    t ≡ get_or ts i t → after (32 ∷ []) rest ≡ Some more → after t.text more ≡ Some next → next ≡
    behind_blanks (drop (i + 1) ts) ++ end → rest ≡ behind_blanks (drop i ts) ++ end
one_more ts i t rest more next end within at blank text e =
    let here : drop i ts ≡ t ∷ drop (i + 1) ts = drop_more ts i t within
    ∙ ap (λ (u : Token). u ∷ drop (i + 1) ts) (sym at) in
    let line : rest ≡ 32 ∷ (t.text ++ (behind_blanks (drop (i + 1) ts) ++ end)) =
    front_of (32 ∷ []) rest more blank
    ∙ ap (λ (l : List ℕ). 32 ∷ l) (front_of t.text more next text)
    ∙ ap (λ (l : List ℕ). 32 ∷ (t.text ++ l)) e in
    line ∙ ap (λ (l : List ℕ). 32 ∷ l)
    (sym (append_assoc t.text (behind_blanks (drop (i + 1) ts)) end))
    ∙ ap (λ (us : List Token). behind_blanks us ++ end) (sym here)

-- the first token, and what stands behind it
pub whole_line : (ts : List Token) (t : Token) (others : List Token) (line rest : List ℕ) → ts ≡
    t ∷ others → after t.text line ≡ Some rest → rest ≡ behind_blanks others ++ 10 ∷ [] → line ≡
    token_line ts
whole_line ts t others line rest are text e =
    front_of t.text line rest text ∙ ap (λ (l : List ℕ). t.text ++ l) e ∙ ap token_line (sym are)
