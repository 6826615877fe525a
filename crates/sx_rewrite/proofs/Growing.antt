-- How an accepted set begins and grows.
use Rattle.std.proofs.Common.{◌≡◌, ℕ, zero, suc, ◌<◌, Bool, true, false, List, [], ◌∷◌, ◌++◌, inl, map, length, Option, Some, None, refl, sym, ap, ◌∙◌, subst, arith}
use Rattle.std.specs.Prelude.{slice_get, unwrap_or}
use Rattle.sx_term.specs.Tree.{Tree}
use Rattle.sx_term.specs.declared.sort.Sort.{Sort}
use Rattle.sx_term.specs.declared.sort.Sort.TheVariants.{Lex}
use Rattle.sx_term.specs.Sorts.{Shape, HasSort, HaveSorts}
use Rattle.sx_rules.specs.Rules.{Judgement, Premise, holds, apart, Rule, Hypotheses, judgements_of}
use Rattle.sx_rules.specs.Modes.{Modes, AllModed}
use Rattle.sx_rules.specs.Sorts.{FormSorts, JudgementIsSorted, PremisesAreSorted, RulesAreSorted}
use Rattle.sx_rules.specs.Derivations.{Derives}
use Rattle.sx_plain.specs.Plain.{Table, image}
use Rattle.sx_plain.specs.Tables.{Begins}
use Rattle.sx_plain.proofs.Tables.{sorted-below, images_stay}
use Rattle.sx_rewrite.specs.Flat.{flat_places, flat_judgement, flat_pairs, flat_hypotheses}
use Rattle.sx_rewrite.specs.Accepted.{ExtRule, Checked, flat_conclusion, Known, basic, checked}
use Rattle.sx_rewrite.specs.Accepted.{rule_in, Accepted, extended_rules, AllCertified}
use Rattle.sx_rewrite.specs.Accepted.{AllDisciplined, Signature, IsAccepted}
use Rattle.sx_rewrite.specs.Sound.{AreSoundBy}
use Rattle.sx_rewrite.specs.Extensions.{with_table, extended_by, BodiesFit, ShapesGoOn}
use Rattle.sx_rewrite.specs.AcceptLaws.{BaseRulesAreAccepted, AcceptedSetsGrow, GrowthGoesOn}
use Rattle.sx_rewrite.proofs.LoweredSorted.{more-sorted, list-more-sorted}
use Rattle.sx_rewrite.proofs.Sound.{sound_rules_are_sorted}

-- the set without extensions
pub same-rules : (rules : List Rule) → map rule_in (map basic rules ++ []) ≡ rules
same-rules [] = refl
same-rules (r ∷ rs) = ap (λ (x : List Rule). r ∷ x) (same-rules rs)

append-none : (ss : List Shape) → ss ≡ ss ++ []
append-none [] = refl
append-none (x ∷ xs) = ap (λ (ys : List Shape). x ∷ ys) (append-none xs)

get-small : (ss : List Shape) (i : ℕ) (x : Shape) → slice_get ss i ≡ Some x → i < length ss
get-small [] i x e = cc
get-small (y ∷ ys) zero x e = omega arith
get-small (y ∷ ys) (suc i) x e = let l = get-small ys i x e in omega arith

pub base_rules_are_accepted : BaseRulesAreAccepted
base_rules_are_accepted sig base rules no_typed fits typed sorted moded disciplined =
    let e = sym (same-rules rules) in
    record {
      begins = ([], append-none base);
      no_typed = no_typed;
      fits = fits;
      typed = typed;
      base_sorted = sorted;
      sorted = subst (λ (x : List Rule). RulesAreSorted base sig.forms x) e sorted;
      moded = subst (λ (x : List Rule). AllModed sig.modes x) e moded;
      disciplined = subst (λ (x : List Rule). AllDisciplined sig.subjects x) e disciplined;
      desugars = record {
        is_table = record { keeps_base = λ label l. refl; flat = λ label body h. cc };
        bodies = λ label body h. cc;
        every = λ label shape h u. inl (get-small base label shape h);
      };
      certified = tt;
    }

-- flat forms under a table with more entries
module _ (shapes : List Shape) (forms : FormSorts) (subjects : Modes) (table other : Table) (keeps : (label : ℕ) → label < length shapes → table label ≡ other label) (vars : List Sort) where
  pub same-image : (t : Tree) (sort : Sort) → HasSort shapes vars t sort → image table t ≡ image other t
  same-image t sort h = images_stay (length shapes) table other t keeps (sorted-below shapes vars t sort h)

  pub same-images : (ts : List Tree) (sorts : List Sort) → HaveSorts shapes vars ts sorts → map (image table) ts ≡ map (image other) ts
  same-images [] sorts h = refl
  same-images (t ∷ ts) [] h = absurd h
  same-images (t ∷ ts) (x ∷ xs) h =
      let a = same-image t x h.0 in
      let b = same-images ts xs h.1 in cc

  same-places : (subject : Option Tree) (bs : List Bool) (ts : List Tree) (sorts : List Sort) → HaveSorts shapes vars ts sorts → flat_places table subject bs ts ≡ flat_places other subject bs ts
  same-places subject [] ts sorts h = same-images ts sorts h
  same-places subject (b ∷ bs) [] sorts h = refl
  same-places subject (b ∷ bs) (t ∷ ts) [] h = absurd h
  same-places subject (true ∷ bs) (t ∷ ts) (x ∷ xs) h = ap (λ (us : List Tree). unwrap_or subject t ∷ us) (same-places subject bs ts xs h.1)
  same-places subject (false ∷ bs) (t ∷ ts) (x ∷ xs) h =
      let a = same-image t x h.0 in
      let b = same-places subject bs ts xs h.1 in cc

  pub same-flat : (subject : Option Tree) (j : Judgement) → JudgementIsSorted shapes forms vars j → flat_judgement table subjects subject j ≡ flat_judgement other subjects subject j
  same-flat subject j h = let e = same-places subject (subjects j.form) j.places (forms j.form) h in λ i. record { form = j.form; places = e i }

  same-premises : (ps : List Premise) → PremisesAreSorted shapes forms vars ps → map (flat_judgement table subjects None) (judgements_of ps) ≡ map (flat_judgement other subjects None) (judgements_of ps)
  same-premises [] h = refl
  same-premises (apart t u ∷ ps) h = same-premises ps h.1
  same-premises (holds j ∷ ps) h =
      let a = same-flat None j h.0 in
      let b = same-premises ps h.1 in cc

  same-pairs : (ps : List Premise) → PremisesAreSorted shapes forms vars ps → flat_pairs table ps ≡ flat_pairs other ps
  same-pairs [] h = refl
  same-pairs (holds j ∷ ps) h = same-pairs ps h.1
  same-pairs (apart t u ∷ ps) h =
      let a = same-image t (Lex h.0.0) h.0.1 in
      let b = same-image u (Lex h.0.0) h.0.2 in
      let c = same-pairs ps h.1 in
      λ i. (a i, b i) ∷ c i

  same-hypotheses : (ps : List Premise) → PremisesAreSorted shapes forms vars ps → flat_hypotheses table subjects ps ≡ flat_hypotheses other subjects ps
  same-hypotheses ps h =
      let a = same-premises ps h in
      let b = same-pairs ps h in
      λ i. record { judgements = a i; pairs = b i }

module _ (sig : Signature) (base shapes : List Shape) (rules : List Rule) (table other : Table) (keeps : (label : ℕ) → label < length shapes → table label ≡ other label) where
  certified-kept : (more : List Checked) → RulesAreSorted shapes sig.forms (map rule_in (map checked more)) → AllCertified table sig.subjects sig.forms base rules more → AllCertified other sig.subjects sig.forms base rules more
  certified-kept [] h c = tt
  certified-kept (x ∷ xs) h c =
      let r = x.rule in
      let a = same-hypotheses shapes sig.forms sig.subjects table other keeps r.sorts r.premises h.0.1 in
      let b = same-flat shapes sig.forms sig.subjects table other keeps r.sorts x.body r.conclusion h.0.0 in
      let d = subst (λ (y : Hypotheses). Derives rules y (flat_conclusion table sig.subjects x) x.proof) a c.0 in
      let e = subst (λ (y : Judgement). Derives rules (flat_hypotheses other sig.subjects r.premises) y x.proof) b d in
      let f = subst (λ (y : Judgement). JudgementIsSorted base sig.forms r.sorts y) b c.1 in
      (e, f, certified-kept xs h.1 c.2)

  certified-both : (more new : List Checked) → AllCertified other sig.subjects sig.forms base rules more → AllCertified other sig.subjects sig.forms base rules new → AllCertified other sig.subjects sig.forms base rules (more ++ new)
  certified-both [] new a b = b
  certified-both (x ∷ xs) new a b = (a.0, a.1, certified-both xs new a.2 b)

pub sorted-more : (shapes : List Shape) (forms : FormSorts) (base : List Rule) (more : List Known) → RulesAreSorted shapes forms (map rule_in (map basic base ++ more)) → RulesAreSorted shapes forms (map rule_in more)
sorted-more shapes forms [] more h = h
sorted-more shapes forms (b ∷ bs) more h = sorted-more shapes forms bs more h.1

append-shapes : (xs ys zs : List Shape) → (xs ++ ys) ++ zs ≡ xs ++ (ys ++ zs)
append-shapes [] ys zs = refl
append-shapes (x ∷ xs) ys zs = ap (λ (ws : List Shape). x ∷ ws) (append-shapes xs ys zs)

-- rules that are well sorted are so by more shapes
module _ (shapes all : List Shape) (begins : Begins shapes all) (forms : FormSorts) where
  premises-more : (vars : List Sort) (ps : List Premise) → PremisesAreSorted shapes forms vars ps → PremisesAreSorted all forms vars ps
  premises-more vars [] h = tt
  premises-more vars (holds j ∷ ps) h = (list-more-sorted shapes all begins vars j.places (forms j.form) h.0, premises-more vars ps h.1)
  premises-more vars (apart t u ∷ ps) h = (
    (h.0.0, more-sorted shapes all begins vars t (Lex h.0.0) h.0.1, more-sorted shapes all begins vars u (Lex h.0.0) h.0.2),
    premises-more vars ps h.1,
  )

  rules-more : (rules : List Rule) → RulesAreSorted shapes forms rules → RulesAreSorted all forms rules
  rules-more [] h = tt
  rules-more (r ∷ rs) h = (
    (list-more-sorted shapes all begins r.sorts r.conclusion.places (forms r.conclusion.form) h.0.0, premises-more r.sorts r.premises h.0.1),
    rules-more rs h.1,
  )

-- lists of rules one after another
sorted-both : (shapes : List Shape) (forms : FormSorts) (rs qs : List Rule) → RulesAreSorted shapes forms rs → RulesAreSorted shapes forms qs → RulesAreSorted shapes forms (rs ++ qs)
sorted-both shapes forms [] qs h k = k
sorted-both shapes forms (r ∷ rs) qs h k = (h.0, sorted-both shapes forms rs qs h.1 k)

moded-both : (modes : Modes) (rs qs : List Rule) → AllModed modes rs → AllModed modes qs → AllModed modes (rs ++ qs)
moded-both modes [] qs h k = k
moded-both modes (r ∷ rs) qs h k = (h.0, moded-both modes rs qs h.1 k)

disciplined-both : (subjects : Modes) (rs qs : List Rule) → AllDisciplined subjects rs → AllDisciplined subjects qs → AllDisciplined subjects (rs ++ qs)
disciplined-both subjects [] qs h k = k
disciplined-both subjects (r ∷ rs) qs h k = (h.0, disciplined-both subjects rs qs h.1 k)

stored-rules : (more new : List Checked) → map rule_in (map checked (more ++ new)) ≡ map rule_in (map checked more) ++ map rule_in (map checked new)
stored-rules [] new = refl
stored-rules (c ∷ cs) new = ap (λ (rs : List Rule). c.rule ∷ rs) (stored-rules cs new)

pub all-rules : (base : List Rule) (more new : List Checked) → map rule_in (map basic base ++ map checked (more ++ new)) ≡ map rule_in (map basic base ++ map checked more) ++ map rule_in (map checked new)
all-rules [] more new = stored-rules more new
all-rules (b ∷ bs) more new = ap (λ (rs : List Rule). b ∷ rs) (all-rules bs more new)

sound-rules : (subjects : Modes) (n : ℕ) (a : Accepted) (es : List ExtRule) (cs : List Checked) → AreSoundBy subjects n a es cs → map (λ e. e.rule) es ≡ map rule_in (map checked cs)
sound-rules subjects n a [] [] h = refl
sound-rules subjects n a [] (c ∷ cs) h = absurd h
sound-rules subjects n a (e ∷ es) [] h = absurd h
sound-rules subjects n a (e ∷ es) (c ∷ cs) h =
    let x = h.0.same_rule in
    let y = sound-rules subjects n a es cs h.1 in
    λ i. sym x i ∷ y i

-- what is sound is certified
module _ (sig : Signature) (base shapes : List Shape) (a : Accepted) (ok : IsAccepted sig base shapes a) (n : ℕ) where
  sound-certified : (es : List ExtRule) (cs : List Checked) → RulesAreSorted shapes sig.forms (map (λ e. e.rule) es) → AllDisciplined sig.subjects (map (λ e. e.rule) es) → BodiesFit sig shapes n a.table es →
      AreSoundBy sig.subjects (length base) a es cs → AllCertified a.table sig.subjects sig.forms base a.base cs
  sound-certified [] [] h d f s = tt
  sound-certified [] (c ∷ cs) h d f s = absurd s
  sound-certified (e ∷ es) [] h d f s = absurd s
  sound-certified (e ∷ es) (c ∷ cs) h d f s = (s.0.certified, sound_rules_are_sorted sig base shapes a ok n e h.0 d.0 f.0 c s.0, sound-certified es cs h.1 d.1 f.1 s.1)

-- the set with a longer table is accepted by more shapes
pub longer : (sig : Signature) (base shapes all : List Shape) (a : Accepted) (table : Table) → IsAccepted sig base shapes a → ShapesGoOn base shapes all a.table table → IsAccepted sig base all (with_table a table)
longer sig base shapes all a table ok x = record {
  begins = (ok.begins.0 ++ x.begins.0, x.begins.1 ∙ ap (λ (ss : List Shape). ss ++ x.begins.0) ok.begins.1 ∙ append-shapes base ok.begins.0 x.begins.0);
  no_typed = x.no_typed;
  fits = ok.fits;
  typed = ok.typed;
  base_sorted = ok.base_sorted;
  sorted = rules-more shapes all x.begins sig.forms (extended_rules a) ok.sorted;
  moded = ok.moded;
  disciplined = ok.disciplined;
  desugars = x.desugars;
  certified = certified-kept sig base shapes a.base a.table table x.keeps a.more (sorted-more shapes sig.forms a.base (map checked a.more) ok.sorted) ok.certified;
}

pub accepted_sets_grow : AcceptedSetsGrow
accepted_sets_grow sig base shapes all a e ok x s =
    let so_far = with_table a e.table in
    let first = longer sig base shapes all a e.table ok x.goes_on in
    let same = sound-rules sig.subjects (length base) so_far e.rules e.stored s in
    let rules = sym (all-rules a.base a.more e.stored) in
    let new = sound-certified sig base all so_far first (length shapes) e.rules e.stored x.sorted x.disciplined x.bodies s in
    record {
      begins = first.begins;
      no_typed = first.no_typed;
      fits = first.fits;
      typed = first.typed;
      base_sorted = first.base_sorted;
      sorted = subst (λ (rs : List Rule). RulesAreSorted all sig.forms rs) rules
          (sorted-both all sig.forms (extended_rules a) (map rule_in (map checked e.stored)) first.sorted (subst (λ (rs : List Rule). RulesAreSorted all sig.forms rs) same x.sorted));
      moded = subst (λ (rs : List Rule). AllModed sig.modes rs) rules
          (moded-both sig.modes (extended_rules a) (map rule_in (map checked e.stored)) first.moded (subst (λ (rs : List Rule). AllModed sig.modes rs) same x.moded));
      disciplined = subst (λ (rs : List Rule). AllDisciplined sig.subjects rs) rules
          (disciplined-both sig.subjects (extended_rules a) (map rule_in (map checked e.stored)) first.disciplined (subst (λ (rs : List Rule). AllDisciplined sig.subjects rs) same x.disciplined));
      desugars = first.desugars;
      certified = certified-both sig base shapes a.base a.table e.table x.goes_on.keeps a.more e.stored first.certified new;
    }

pub growth_goes_on : GrowthGoesOn
growth_goes_on subjects n start a [] e g s = (subst (λ (b : Accepted). AreSoundBy subjects n (with_table b e.table) e.rules e.stored) (sym g) s, ap (λ (b : Accepted). extended_by b e) g)
growth_goes_on subjects n start a (x ∷ xs) e g s = (g.0, growth_goes_on subjects n (extended_by start x) a xs e g.1 s)
