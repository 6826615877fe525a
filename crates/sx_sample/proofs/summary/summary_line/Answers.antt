use Rattle.std.proofs.Common.{◌≡◌, ℕ, List, [], ◌++◌, ap, ◌∙◌, append_assoc}
use Rattle.sx_sample.proofs.summary.summary_line.Goals as goal

-- what five calls in a row append to nothing
appended : (start one two three four all a b c d e : List ℕ) → start ≡ [] → one ≡ start ++ a →
    two ≡ one ++ b → three ≡ two ++ c → four ≡ three ++ d → all ≡ four ++ e →
    all ≡ a ++ (b ++ (c ++ (d ++ e)))
appended start one two three four all a b c d e none first second third fourth last =
    last ∙ ap (λ (x : List ℕ). x ++ e) (fourth ∙ ap (λ (x : List ℕ). x ++ d)
    (third ∙ ap (λ (x : List ℕ). x ++ c) (second ∙ ap (λ (x : List ℕ). x ++ b)
    (first ∙ ap (λ (x : List ℕ). x ++ a) none)))) ∙ simp append_assoc

pub returns : goal.returns
returns c =
    let whole = appended _ _ _ _ _ _ _ _ _ _ _ c.new-line.ensures.items c.in_ok-put.ensures
    c.in_ok-put-2.ensures c.in_ok-put-3.ensures c.in_ok-put-4.ensures
    c.in_ok-extend_from_slice.ensures.items in
    let all = simp append_assoc at whole in simp append_assoc (cc all)
