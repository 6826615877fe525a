-- Texts of auditors one after another.
use Rattle.std.proofs.Common.{◌≡◌, ℕ, ◌+◌, ◌<◌, List, [], ◌∷◌, ◌++◌, map, length, drop, get_or}
use Rattle.std.proofs.Common.{ap, sym, ◌∙◌, append_assoc}
use Rattle.std.proofs.lemmas.List.{drop_more}
use Rattle.std.proofs.lemmas.List.Concat.{flat_map-cons}
use Rattle.sx_audit.specs.Meaning.{Meaning, auditor_text}
use Rattle.sx_auditing.specs.Texts.{texts_of}

-- the text of an auditor, and then those of the others
pub text-put : {A : Type 0} (f : A → Meaning) (items : List A) (i : ℕ) (x : A) →
    i < length items → x ≡ get_or items i x → (old new whole : List ℕ) →
    new ≡ (old ++ auditor_text (f x)) ++ 10 ∷ [] →
    old ++ texts_of (map f (drop i items)) ≡ whole →
    new ++ texts_of (map f (drop (i + 1) items)) ≡ whole
text-put {A} f items i x h e old new whole n w =
    let rest = texts_of (map f (drop (i + 1) items)) in
    let next : drop i items ≡ x ∷ drop (i + 1) items =
    drop_more items i x h ∙ ap (λ (y : A). y ∷ drop (i + 1) items) (sym e) in
    ap (λ (bytes : List ℕ). bytes ++ rest) (n ∙ append_assoc old (auditor_text (f x)) (10 ∷ []))
    ∙ append_assoc old (auditor_text (f x) ++ 10 ∷ []) rest
    ∙ ap (λ (bytes : List ℕ). old ++ bytes)
    (sym (flat_map-cons (λ (y : Meaning). auditor_text y ++ 10 ∷ []) (f x)
    (map f (drop (i + 1) items))))
    ∙ ap (λ (xs : List A). old ++ texts_of (map f xs)) (sym next) ∙ w
