-- Sets of plain rules.
use Rattle.std.proofs.Common.{◌≡◌, arith, ℕ, zero, suc, ◌<◌, List, [], ◌∷◌, ◌++◌, map, length, None, refl, sym, ap, ◌∙◌, subst}
use Rattle.std.specs.Prelude.{get_or}
use Rattle.std.specs.List.{AllByRecursion}
use Rattle.sx_term.specs.Tree.{Tree}
use Rattle.sx_term.specs.declared.sort.Sort.{Sort}
use Rattle.sx_term.specs.Untyped.{PlainHaveNoTyped}
use Rattle.sx_term.specs.Sorts.{Shape}
use Rattle.sx_rules.specs.Rules.{Judgement, Premise, holds, apart, Rule}
use Rattle.sx_rules.specs.Modes.{Modes, outputs}
use Rattle.sx_rules.specs.Sorts.{FormSorts, JudgementIsSorted, PremisesAreSorted, RuleIsSorted}
use Rattle.sx_rules.specs.Sorts.{RulesAreSorted}
use Rattle.sx_rules.specs.Discipline.{FormsFit}
use Rattle.sx_rules.specs.Deep.{AreShallow, PremisesAreShallow, RulesAreShallow}
use Rattle.sx_rules.specs.declared.rule.Rule.{Rule as RuleOf}
use Rattle.sx_rules.specs.Views.{FormData, NamedRule, named, rule}
use Rattle.sx_rewrite.specs.declared.ext_rule.ExtRule.{ExtRule}
use Rattle.sx_rules.specs.Fits.{JudgementFits, PremiseFits, PremisesFit}
use Rattle.sx_rules.specs.Good.{IsGood, AllGood, IsRuleSet}
use Rattle.sx_rules.proofs.SetLaws.{fitting_sorted}
use Rattle.sx_plain.specs.Plain.{Table, image}
use Rattle.sx_plain.specs.Tables.{IsPlainTable, Begins, Desugars}
use Rattle.sx_plain.proofs.Tables.{base-stays, sorted-below}
use Rattle.sx_rewrite.specs.Accepted.{Checked, basic, checked, rule_in, AreTypedSorts}
use Rattle.sx_rewrite.specs.PlainRules.{image_judgement, image_premise, plain_rule, plain_named}
use Rattle.sx_rewrite.specs.PlainRules.{plain_checked, HasImage, PremiseHasImage, RuleHasImage}
use Rattle.sx_rewrite.specs.Stored.{signature_of}
use Rattle.sx_rewrite.proofs.Lowerings.{map-stays, have_sorts-below}
use Rattle.sx_rewrite.proofs.PlainRules.{image-keeps, list-keeps}
use Rattle.sx_rewrite.proofs.PlainSets.{plain-moded, plain-disciplined}
use Rattle.sx_rewrite.proofs.Growing.{same-images, same-image}
use Rattle.sx_rewrite.proofs.KeptAccepted.{bare-rules}

-- what holds of each element holds of one
pub held-at : {X Y : Type 0} (P : Y → Type 0) (f : X → Y) (xs : List X) (i : ℕ) (x : X) → AllByRecursion P (map f xs) → i < length xs → x ≡ get_or xs i x → P (f x)
held-at P f [] i x h l e = absurd (omega (arith, l))
held-at P f (y ∷ ys) zero x h l e = subst P (sym (ap f e)) h.0
held-at P f (y ∷ ys) (suc i) x h l e = held-at P f ys i x h.1 (omega (arith, l)) e

pub held-in : {X : Type 0} (P : X → Type 0) (xs : List X) (i : ℕ) (x : X) → AllByRecursion P xs → i < length xs → x ≡ get_or xs i x → P x
held-in P [] i x h l e = absurd (omega (arith, l))
held-in P (y ∷ ys) zero x h l e = subst P (sym e) h.0
held-in P (y ∷ ys) (suc i) x h l e = held-in P ys i x h.1 (omega (arith, l)) e

-- plain rules are good where the rules are
module _ (base shapes : List Shape) (forms : List FormData) (table : Table) (begins : Begins base shapes) (no_typed : PlainHaveNoTyped shapes)
    (fits : FormsFit (signature_of forms).modes (signature_of forms).subjects (signature_of forms).forms)
    (typed : (form : ℕ) → AreTypedSorts (outputs ((signature_of forms).subjects form) ((signature_of forms).forms form))) (d : Desugars base shapes table) where
  judgement-fits : (vars : List Sort) (j : Judgement) → JudgementFits shapes forms vars j → JudgementFits shapes forms vars (image_judgement table j)
  judgement-fits vars j h = (h.0, h.1, list-keeps base shapes table begins no_typed d vars j.places (map (λ p. p.sort) h.0.places) h.2)

  premise-fits : (vars : List Sort) (p : Premise) → PremiseFits shapes forms vars p → PremiseFits shapes forms vars (image_premise table p)
  premise-fits vars (holds j) h = judgement-fits vars j h
  premise-fits vars (apart t u) h = (h.0, image-keeps base shapes table begins no_typed d vars t _ h.1, image-keeps base shapes table begins no_typed d vars u _ h.2)

  premises-fit : (vars : List Sort) (ps : List Premise) → PremisesFit shapes forms vars ps → PremisesFit shapes forms vars (map (image_premise table) ps)
  premises-fit vars [] h = tt
  premises-fit vars (p ∷ ps) h = (premise-fits vars p h.0, premises-fit vars ps h.1)

  plain-good : (names : List (List ℕ)) (r : NamedRule) → IsGood shapes forms names r → IsGood shapes forms names (plain_named table r)
  plain-good names r g =
      let sig = signature_of forms in
      let sorted = fitting_sorted shapes forms r.rule g.fits in
      record {
        few = g.few;
        fresh = g.fresh;
        fits = (judgement-fits r.rule.sorts r.rule.conclusion g.fits.0, premises-fit r.rule.sorts r.rule.premises g.fits.1);
        disciplined = plain-disciplined sig base shapes table begins no_typed fits typed d r.rule sorted g.disciplined;
        moded = plain-moded sig base shapes table begins no_typed fits typed d r.rule sorted g.moded;
      }

  plain-all : (names : List (List ℕ)) (rs : List NamedRule) → AllGood shapes forms names rs → AllGood shapes forms names (map (plain_named table) rs)
  plain-all names [] h = tt
  plain-all names (r ∷ rs) h = (plain-good names r h.0, plain-all (names ++ r.name ∷ []) rs h.1)

  same-count : (rs : List NamedRule) → length (map (plain_named table) rs) ≡ length rs
  same-count [] = refl
  same-count (r ∷ rs) = let e = same-count rs in omega (arith, e)

  pub plain-set : (rs : List NamedRule) → IsRuleSet shapes forms rs → IsRuleSet shapes forms (map (plain_named table) rs)
  plain-set rs h = let e = same-count rs in let l = h.0 in (omega (arith, e, l), plain-all [] rs h.1)

-- base rules are their own plain rules
module _ (base : List Shape) (forms : FormSorts) (table : Table) (is : IsPlainTable (length base) table) where
  judgement-stays : (vars : List Sort) (j : Judgement) → JudgementIsSorted base forms vars j → image_judgement table j ≡ j
  judgement-stays vars j h =
      let e = map-stays (length base) table is j.places (have_sorts-below base vars j.places (forms j.form) h) in
      λ i. record { form = j.form; places = e i }

  premises-stay : (vars : List Sort) (ps : List Premise) → PremisesAreSorted base forms vars ps → map (image_premise table) ps ≡ ps
  premises-stay vars [] h = refl
  premises-stay vars (holds j ∷ ps) h =
      let a = judgement-stays vars j h.0 in
      let b = premises-stay vars ps h.1 in
      λ i. holds (a i) ∷ b i
  premises-stay vars (apart t u ∷ ps) h =
      let a = base-stays (length base) table is t (sorted-below base vars t _ h.0.1) in
      let b = base-stays (length base) table is u (sorted-below base vars u _ h.0.2) in
      let c = premises-stay vars ps h.1 in
      λ i. apart (a i) (b i) ∷ c i

  pub rule-stays : (r : Rule) → RuleIsSorted base forms r → plain_rule table r ≡ r
  rule-stays r h =
      let a = premises-stay r.sorts r.premises h.1 in
      let b = judgement-stays r.sorts r.conclusion h.0 in
      λ i. record { sorts = r.sorts; premises = a i; conclusion = b i }

  pub named-stay : (rs : List NamedRule) → RulesAreSorted base forms (map (λ r. r.rule) rs) → map (plain_named table) rs ≡ rs
  named-stay [] h = refl
  named-stay (r ∷ rs) h =
      let a = rule-stays r.rule h.0 in
      let b = named-stay rs h.1 in
      λ i. record { name = r.name; rule = a i } ∷ b i

-- plain rules stay under a table with more entries
module _ (shapes : List Shape) (forms : FormSorts) (subjects : Modes) (table other : Table) (keeps : (label : ℕ) → label < length shapes → table label ≡ other label) where
  judgement-same : (vars : List Sort) (j : Judgement) → JudgementIsSorted shapes forms vars j → image_judgement table j ≡ image_judgement other j
  judgement-same vars j h =
      let e = same-images shapes forms subjects table other keeps vars j.places (forms j.form) h in
      λ i. record { form = j.form; places = e i }

  premises-same : (vars : List Sort) (ps : List Premise) → PremisesAreSorted shapes forms vars ps → map (image_premise table) ps ≡ map (image_premise other) ps
  premises-same vars [] h = refl
  premises-same vars (holds j ∷ ps) h =
      let a = judgement-same vars j h.0 in
      let b = premises-same vars ps h.1 in
      λ i. holds (a i) ∷ b i
  premises-same vars (apart t u ∷ ps) h =
      let a = same-image shapes forms subjects table other keeps vars t _ h.0.1 in
      let b = same-image shapes forms subjects table other keeps vars u _ h.0.2 in
      let c = premises-same vars ps h.1 in
      λ i. apart (a i) (b i) ∷ c i

  pub rule-same : (r : Rule) → RuleIsSorted shapes forms r → plain_rule table r ≡ plain_rule other r
  rule-same r h =
      let a = premises-same r.sorts r.premises h.1 in
      let b = judgement-same r.sorts r.conclusion h.0 in
      λ i. record { sorts = r.sorts; premises = a i; conclusion = b i }

  pub named-same : (rs : List NamedRule) → RulesAreSorted shapes forms (map (λ r. r.rule) rs) → map (plain_named table) rs ≡ map (plain_named other) rs
  named-same [] h = refl
  named-same (r ∷ rs) h =
      let a = rule-same r.rule h.0 in
      let c = named-same rs h.1 in
      λ i. record { name = r.name; rule = a i } ∷ c i

-- plain rules are not deep
terms-shallow : (table : Table) (ts : List Tree) → AllByRecursion (HasImage table) ts → AreShallow (map (image table) ts)
terms-shallow table [] h = tt
terms-shallow table (t ∷ ts) h = (h.0.image_shallow, terms-shallow table ts h.1)

premises-shallow : (table : Table) (ps : List Premise) → AllByRecursion (PremiseHasImage table) ps → PremisesAreShallow (map (image_premise table) ps)
premises-shallow table [] h = tt
premises-shallow table (holds j ∷ ps) h = (terms-shallow table j.places h.0, premises-shallow table ps h.1)
premises-shallow table (apart t u ∷ ps) h = ((h.0.0.image_shallow, h.0.1.image_shallow), premises-shallow table ps h.1)

-- without entries all rules are their own plain rules
pub none-stay : (table : Table) → table ≡ (λ (label : ℕ). None) → (shapes : List Shape) (forms : FormSorts) (rs : List RuleOf) → RulesAreSorted shapes forms (map rule rs) →
    map (plain_named table) (map named rs) ≡ map named rs
none-stay table e shapes forms rs h =
    let is : IsPlainTable (length shapes) table = subst (λ (t : Table). IsPlainTable (length shapes) t) (sym e) (record { keeps_base = λ label l. refl; flat = λ label body f. cc }) in
    named-stay shapes forms table is (map named rs) (subst (λ (x : List Rule). RulesAreSorted shapes forms x) (bare-rules rs) h)

-- the plain rules of a set without their names
bare-plain : (table : Table) (ns : List NamedRule) → map (λ r. r.rule) (map (plain_named table) ns) ≡ map (plain_rule table) (map (λ r. r.rule) ns)
bare-plain table [] = refl
bare-plain table (n ∷ ns) = ap (λ (x : List Rule). plain_rule table n.rule ∷ x) (bare-plain table ns)

plain-more : (table : Table) (more : List Checked) → map (plain_rule table) (map rule_in (map checked more)) ≡ map rule_in (map checked (map (plain_checked table) more))
plain-more table [] = refl
plain-more table (c ∷ cs) = ap (λ (x : List Rule). plain_rule table c.rule ∷ x) (plain-more table cs)

plain-both : (base : List Shape) (forms : FormSorts) (table : Table) → IsPlainTable (length base) table → (bs : List Rule) (more : List Checked) → RulesAreSorted base forms bs →
    map (plain_rule table) (map rule_in (map basic bs ++ map checked more)) ≡ map rule_in (map basic bs ++ map checked (map (plain_checked table) more))
plain-both base forms table is [] more h = plain-more table more
plain-both base forms table is (b ∷ bs) more h =
    let a = rule-stays base forms table is b h.0 in
    let c = plain-both base forms table is bs more h.1 in
    λ i. a i ∷ c i

pub plain-bare : (base : List Shape) (forms : FormSorts) (table : Table) → IsPlainTable (length base) table → (bs : List Rule) (more : List Checked) → RulesAreSorted base forms bs → (ps rs : List RuleOf) →
    map named ps ≡ map (plain_named table) (map named rs) → map rule rs ≡ map rule_in (map basic bs ++ map checked more) →
    map rule ps ≡ map rule_in (map basic bs ++ map checked (map (plain_checked table) more))
plain-bare base forms table is bs more h ps rs e f =
    bare-rules ps ∙ ap (map (λ (r : NamedRule). r.rule)) e ∙ bare-plain table (map named rs) ∙ ap (map (plain_rule table)) (sym (bare-rules rs) ∙ f) ∙ plain-both base forms table is bs more h

-- the plain rules of a set and those of an extension are the plain rules of all
map-both : (table : Table) (ns ms : List NamedRule) → map (plain_named table) (ns ++ ms) ≡ map (plain_named table) ns ++ map (plain_named table) ms
map-both table [] ms = refl
map-both table (n ∷ ns) ms = ap (λ (x : List NamedRule). plain_named table n ∷ x) (map-both table ns ms)

map-exts : (table : Table) (es : List ExtRule) → map (plain_named table) (map (λ e. named e.rule) es) ≡ map (λ e. plain_named table (named e.rule)) es
map-exts table [] = refl
map-exts table (e ∷ es) = ap (λ (x : List NamedRule). plain_named table (named e.rule) ∷ x) (map-exts table es)

pub plain-grown : (shapes : List Shape) (forms : FormSorts) (subjects : Modes) (table other : Table) → ((label : ℕ) → label < length shapes → table label ≡ other label) → (ps : List NamedRule) (rs : List RuleOf) (es : List ExtRule) →
    RulesAreSorted shapes forms (map rule rs) → ps ≡ map (plain_named table) (map named rs) →
    ps ++ map (λ e. plain_named other (named e.rule)) es ≡ map (plain_named other) (map named rs ++ map (λ e. named e.rule) es)
plain-grown shapes forms subjects table other keeps ps rs es h e =
    let a = e ∙ named-same shapes forms subjects table other keeps (map named rs) (subst (λ (x : List Rule). RulesAreSorted shapes forms x) (bare-rules rs) h) in
    let b = sym (map-exts other es) in
    (λ i. a i ++ b i) ∙ sym (map-both other (map named rs) (map (λ e. named e.rule) es))

bare-exts : (table : Table) (es : List ExtRule) → AllByRecursion (λ e. RuleHasImage table (rule e.rule)) es → RulesAreShallow (map (λ r. r.rule) (map (λ e. plain_named table (named e.rule)) es))
bare-exts table [] h = tt
bare-exts table (e ∷ es) h = ((terms-shallow table (rule e.rule).conclusion.places h.0.0, premises-shallow table (rule e.rule).premises h.0.1), bare-exts table es h.1)

pub exts-shallow : (table : Table) (rs : List RuleOf) (es : List ExtRule) → map named rs ≡ map (λ e. plain_named table (named e.rule)) es → AllByRecursion (λ e. RuleHasImage table (rule e.rule)) es → RulesAreShallow (map rule rs)
exts-shallow table rs es e h = subst (λ (x : List Rule). RulesAreShallow x) (sym (bare-rules rs ∙ ap (map (λ (r : NamedRule). r.rule)) e)) (bare-exts table es h)
