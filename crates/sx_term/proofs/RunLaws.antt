-- Runs of characters, words and strings stand in one way.
use Rattle.std.proofs.Common.{◌≡◌, ℕ, List, [], ◌∷◌, ◌++◌, IsTrue, Bool, sym, refl, ap, ◌∙◌, append_assoc}
use Rattle.std.specs.Char.{encode_utf8}
use Rattle.std.specs.Str.{encode_utf8_all}
use Rattle.std.specs.List.{AllByRecursion}
use Rattle.std.proofs.lemmas.Str.{encode_same}
use Rattle.sx_term.specs.Cutting.{BeginsWhere, IsMaximalRun, IsWord, IsString}

-- a text that is the characters cs before x, with no such character at the front of x, is it in one way
run_same : (p : ℕ → Bool) (cs ds x y : List ℕ) → AllByRecursion (λ c. IsTrue (p c)) cs → AllByRecursion (λ c. IsTrue (p c)) ds → ¬ (BeginsWhere p x) → ¬ (BeginsWhere p y)
    → encode_utf8_all cs ++ x ≡ encode_utf8_all ds ++ y → (cs ≡ ds) × (x ≡ y)
run_same p [] [] x y hc hd nx ny e = (refl, e)
run_same p [] (d ∷ ds) x y hc hd nx ny e = absurd (nx (d, encode_utf8_all ds ++ y, hd.0, e ∙ append_assoc (encode_utf8 d) (encode_utf8_all ds) y))
run_same p (c ∷ cs) [] x y hc hd nx ny e = absurd (ny (c, encode_utf8_all cs ++ x, hc.0, sym e ∙ append_assoc (encode_utf8 c) (encode_utf8_all cs) x))
run_same p (c ∷ cs) (d ∷ ds) x y hc hd nx ny e =
    let heads = encode_same c d (encode_utf8_all cs ++ x) (encode_utf8_all ds ++ y) (sym (append_assoc (encode_utf8 c) (encode_utf8_all cs) x) ∙ e ∙ append_assoc (encode_utf8 d) (encode_utf8_all ds) y) in
    let tails = run_same p cs ds x y hc.1 hd.1 nx ny heads.1 in
    ((λ i. heads.0 i ∷ tails.0 i), tails.1)

pub IsMaximalRun-same : (p : ℕ → Bool) (a b x y : List ℕ) → IsMaximalRun p a x → IsMaximalRun p b y → a ++ x ≡ b ++ y → (a ≡ b) × (x ≡ y)
IsMaximalRun-same p a b x y one other e =
    let same = run_same p one.characters.0 other.characters.0 x y one.characters.1 other.characters.1 one.maximal other.maximal
    (ap (λ t. t ++ x) (sym one.characters.2) ∙ e ∙ ap (λ t. t ++ y) other.characters.2) in
    (one.characters.2 ∙ ap encode_utf8_all same.0 ∙ sym other.characters.2, same.1)

pub IsWord-same : (a b x y : List ℕ) → IsWord a x → IsWord b y → a ++ x ≡ b ++ y → (a ≡ b) × (x ≡ y)
IsWord-same a b x y one other e =
    let heads = encode_same one.first other.first (one.others ++ x) (other.others ++ y)
    (sym (append_assoc (encode_utf8 one.first) one.others x) ∙ ap (λ t. t ++ x) (sym one.split) ∙ e ∙ ap (λ t. t ++ y) other.split ∙ append_assoc (encode_utf8 other.first) other.others y) in
    let tails = IsMaximalRun-same _ one.others other.others x y one.goes_on other.goes_on heads.1 in
    (one.split ∙ (λ i. encode_utf8 (heads.0 i) ++ tails.0 i) ∙ sym other.split, tails.1)

tail_same : (a b : ℕ) (x y : List ℕ) → a ∷ x ≡ b ∷ y → x ≡ y
tail_same a b x y e = cc

pub IsString-same : (a b x y : List ℕ) → IsString a x → IsString b y → a ++ x ≡ b ++ y → (a ≡ b) × (x ≡ y)
IsString-same a b x y (u, eu, ru) (v, ev, rv) e =
    let body : u ++ (34 ∷ x) ≡ v ++ (34 ∷ y) = tail_same 34 34 _ _ (sym (ap (λ t. 34 ∷ t) (append_assoc u (34 ∷ []) x)) ∙ sym (ap (λ t. t ++ x) eu) ∙ e ∙ ap (λ t. t ++ y) ev ∙ ap (λ t. 34 ∷ t) (append_assoc v (34 ∷ []) y)) in
    let same = IsMaximalRun-same _ u v (34 ∷ x) (34 ∷ y) ru rv body in
    (eu ∙ ap (λ t. 34 ∷ (t ++ 34 ∷ [])) same.0 ∙ sym ev, tail_same 34 34 x y same.1)
