-- The kinds of the auditors, in a set of texts.
use Rattle.std.proofs.Common.{◌≡◌, ℕ, Bool, true, false, ◌||◌, List, [], ◌∷◌, ◌++◌, if◌then◌else◌, refl, sym, ap, ◌∙◌}
use Rattle.std.specs.Global.{Vec}
use Rattle.std.specs.List.{list_any}
use Rattle.std.specs.Str.{bytes_eq}
use Rattle.std.proofs.lemmas.Slice.Eq.{bytes_eq-Decides}
use Rattle.std.proofs.lemmas.Bool.Decides.{same_from_decides}
use Rattle.indexmap.specs.IndexSet.{insert_key}
use Rattle.sx_words.specs.Commands.{AuditWord, has_kind}

abbrev finds : List ℕ → List (Vec ℕ) → Bool
finds kind keys = list_any (λ k. bytes_eq kind k.items) keys

bytes_eq_sym : (a b : List ℕ) → bytes_eq a b ≡ bytes_eq b a
bytes_eq_sym a b =
    let d = bytes_eq-Decides a b in
    let e = bytes_eq-Decides b a in
    same_from_decides (bytes_eq a b) (bytes_eq b a) d (λ t. sym (e.0 t), λ same. e.1 (sym same))

or_later : (a b c : Bool) → (a || (b || c)) ≡ ((a || b) || c)
or_later true b c = refl
or_later false b c = refl

or_false : (a : Bool) → (a || false) ≡ a
or_false true = refl
or_false false = refl

found_last : (keys : List (Vec ℕ)) (k : Vec ℕ) (kind : List ℕ) → finds kind (keys ++ k ∷ []) ≡ (finds kind keys || bytes_eq kind k.items)
found_last [] k kind = or_false (bytes_eq kind k.items)
found_last (x ∷ keys) k kind = ap (λ t. bytes_eq kind x.items || t) (found_last keys k kind) ∙ or_later (bytes_eq kind x.items) (finds kind keys) (bytes_eq kind k.items)

named_last : (audits : List AuditWord) (a : AuditWord) (kind : List ℕ) → has_kind (audits ++ a ∷ []) kind ≡ (has_kind audits kind || bytes_eq a.kind kind)
named_last [] a kind = or_false (bytes_eq a.kind kind)
named_last (x ∷ audits) a kind = ap (λ t. bytes_eq x.kind kind || t) (named_last audits a kind) ∙ or_later (bytes_eq x.kind kind) (has_kind audits kind) (bytes_eq a.kind kind)

-- a kind that was found is found however often it is named
again : (keys : List (Vec ℕ)) (k : Vec ℕ) (kind : List ℕ) (test : Bool) → finds k.items keys ≡ true → bytes_eq kind k.items ≡ test → finds kind keys ≡ (finds kind keys || test)
again keys k kind false found e = sym (or_false (finds kind keys))
again keys k kind true found e =
    let same : finds kind keys ≡ true = ap (λ t. finds t keys) ((bytes_eq-Decides kind k.items).0 e) ∙ found in
    rw same refl

inserted : (keys : List (Vec ℕ)) (k : Vec ℕ) (kind : List ℕ) (test : Bool) → finds k.items keys ≡ test → finds kind (if test then keys else (keys ++ k ∷ [])) ≡ (finds kind keys || bytes_eq kind k.items)
inserted keys k kind true found = again keys k kind (bytes_eq kind k.items) found refl
inserted keys k kind false found = found_last keys k kind

-- one more auditor, whose kind is put into the set
pub one_more : (keys after : List (Vec ℕ)) (audits : List AuditWord) (k : Vec ℕ) (a : AuditWord) (kind : List ℕ) → k.items ≡ a.kind
    → after ≡ insert_key (λ x y. bytes_eq x.items y.items) keys k → finds kind keys ≡ has_kind audits kind → finds kind after ≡ has_kind (audits ++ a ∷ []) kind
one_more keys after audits k a kind same e all =
    ap (finds kind) e
    ∙ inserted keys k kind (finds k.items keys) refl
    ∙ ap (λ t. t || bytes_eq kind k.items) all
    ∙ ap (λ t. has_kind audits kind || t) (bytes_eq_sym kind k.items ∙ ap (λ t. bytes_eq t kind) same)
    ∙ sym (named_last audits a kind)
