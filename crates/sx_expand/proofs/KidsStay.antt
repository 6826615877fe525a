-- Subjects of kids stay where terms are put into the arena.
use Rattle.std.proofs.Common.{◌≡◌, arith, ℕ, zero, suc, ◌<◌, Bool, List, [], ◌∷◌, length, Option, Some, None, sym, ap, ◌∙◌, subst}
use Rattle.std.specs.Prelude.{get_or, slice_get}
use Rattle.sx_term.specs.Tree.{Tree, node, none}
use Rattle.sx_rules.specs.Rules.{Rule, Hypotheses}
use Rattle.sx_rules.specs.Modes.{Modes}
use Rattle.sx_rules.specs.Derivations.{Proof, Proofs}
use Rattle.sx_arena.specs.Arena.{Extends}
use Rattle.sx_arena.proofs.Growing.{extends-length, extends-at}
use Rattle.sx_rewrite.specs.Puts.{IsSmallTerm}
use Rattle.sx_expand.specs.KidSubjects.{IsSubjectAt, IsKidSubject, AreKidSubjects}

pub subject-stays : (old new subjects : List Tree) (o : Option ℕ) → Extends old new → IsSubjectAt old subjects o → IsSubjectAt new subjects o
subject-stays old new subjects None x h = h
subject-stays old new subjects (Some i) x (l, d, (rest, e)) =
    let same = extends-at old new x i (node 0 none) l in
    let n = extends-length old new x in
    (omega (arith, l, n), subst IsSmallTerm (sym same) d, (rest, e ∙ ap (λ (t : Tree). t ∷ rest) (sym same)))

pub kid-stays : (subjects : Modes) (rules : List Rule) (hyps : Hypotheses) (old new : List Tree) (kid : Proof) (o : Option ℕ) → Extends old new → IsKidSubject subjects rules hyps old kid o → IsKidSubject subjects rules hyps new kid o
kid-stays subjects rules hyps old new kid o x h = record { judgement = h.judgement; derives = h.derives; is = λ k d. subject-stays old new _ o x (h.is k d) }

pub kids-stay : (subjects : Modes) (rules : List Rule) (hyps : Hypotheses) (need : ℕ → Bool) (old new : List Tree) (kids : Proofs) (numbers : List (Option ℕ)) → Extends old new → AreKidSubjects subjects rules hyps need old kids numbers →
    AreKidSubjects subjects rules hyps need new kids numbers
kids-stay subjects rules hyps need old new kids numbers x h = record { many = h.many; each = λ i kid n e. kid-stays subjects rules hyps old new kid (get_or numbers i None) x (h.each i kid n e) }

pub found-is : (o : Option Rule) (x y : Rule) → o ≡ Some x → o ≡ Some y → x ≡ y
found-is o x y e f = let q : Some x ≡ Some y = sym e ∙ f in cc

pub rule-within : (rs : List Rule) (i : ℕ) (x : Rule) → slice_get rs i ≡ Some x → i < length rs
rule-within [] i x e = cc
rule-within (r ∷ rs) zero x e = omega arith
rule-within (r ∷ rs) (suc i) x e = let h = rule-within rs i x e in omega (arith, h)
