-- What is counted of derivations by plain rules.
use Rattle.std.proofs.Common.{◌≡◌, ℕ, suc, List, [], ◌∷◌, ◌++◌, map, length, Option, Some, None, refl, ap, ◌∙◌, subst}
use Rattle.std.specs.Prelude.{slice_get, option_map}
use Rattle.std.proofs.lemmas.Option.{slice_get-map}
use Rattle.sx_rules.specs.Rules.{Premise, holds, apart, Rule, judgements_of}
use Rattle.sx_rules.specs.Derivations.{Proof, Proofs, by, given, no_more, ◌⊳◌}
use Rattle.sx_plain.specs.Plain.{Table}
use Rattle.sx_rewrite.specs.Accepted.{Known, basic, checked, Checked, Accepted, known_of}
use Rattle.sx_rewrite.specs.PlainRules.{image_premise, plain_checked, plain_of}
use Rattle.sx_rewrite.specs.Used.{lowered_nodes, lowered_nodes_of, lowered_height, lowered_heights_of, nodes_at, height_at}
use Rattle.sx_rewrite.specs.Copied.{copied, copied_of, copied_at}
use Rattle.sx_rewrite.specs.LoweredSizes.{FitKids, HasFitKids, HaveFitKids}
use Rattle.sx_rewrite.specs.SizeLaws.{DerivationsFit, PlainRulesCountAlike}
use Rattle.sx_rewrite.proofs.Tallied.{derived-fit}

-- the plain rule of an extension rule, and a base rule as it is
abbrev plain_known : Table → Known → Known
plain_known table (basic rule) = basic rule
plain_known table (checked c) = checked (plain_checked table c)

plain-more : (table : Table) (cs : List Checked) → map checked (map (plain_checked table) cs) ≡ map (plain_known table) (map checked cs)
plain-more table [] = refl
plain-more table (c ∷ cs) = ap (λ (ks : List Known). checked (plain_checked table c) ∷ ks) (plain-more table cs)

plain-known : (table : Table) (base : List Rule) (more : List Checked) → map basic base ++ map checked (map (plain_checked table) more) ≡ map (plain_known table) (map basic base ++ map checked more)
plain-known table [] more = plain-more table more
plain-known table (b ∷ bs) more = ap (λ (ks : List Known). basic b ∷ ks) (plain-known table bs more)

plain-at : (a : Accepted) (r : ℕ) → slice_get (known_of (plain_of a)) r ≡ option_map (plain_known a.table) (slice_get (known_of a) r)
plain-at a r = ap (λ (ks : List Known). slice_get ks r) (plain-known a.table a.base a.more) ∙ slice_get-map (plain_known a.table) (known_of a) r

-- it has the same number of judgements among its premises, and the same certificate
many-judgements : (table : Table) (ps : List Premise) → length (judgements_of (map (image_premise table) ps)) ≡ length (judgements_of ps)
many-judgements table [] = refl
many-judgements table (holds j ∷ ps) = ap suc (many-judgements table ps)
many-judgements table (apart t u ∷ ps) = many-judgements table ps

fit-alike : (table : Table) (o : Option Known) (kids : Proofs) → FitKids (option_map (plain_known table) o) kids → FitKids o kids
fit-alike table None kids h = h
fit-alike table (Some (basic rule)) kids h = h
fit-alike table (Some (checked c)) kids h = h ∙ many-judgements table c.rule.premises

nodes-alike : (table : Table) (o : Option Known) (ns : List ℕ) → nodes_at (option_map (plain_known table) o) ns ≡ nodes_at o ns
nodes-alike table None ns = refl
nodes-alike table (Some (basic rule)) ns = refl
nodes-alike table (Some (checked c)) ns = refl

height-alike : (table : Table) (o : Option Known) (hs : List ℕ) → height_at (option_map (plain_known table) o) hs ≡ height_at o hs
height-alike table None hs = refl
height-alike table (Some (basic rule)) hs = refl
height-alike table (Some (checked c)) hs = refl

copied-alike : (table : Table) (o : Option Known) (ns cs : List ℕ) → copied_at (option_map (plain_known table) o) ns cs ≡ copied_at o ns cs
copied-alike table None ns cs = refl
copied-alike table (Some (basic rule)) ns cs = refl
copied-alike table (Some (checked c)) ns cs = refl

module _ (a : Accepted) where
  mutual
    fits : (p : Proof) → HasFitKids (plain_of a) p → HasFitKids a p
    fits (by r binds kids) h = (fit-alike a.table (slice_get (known_of a) r) kids (subst (λ (o : Option Known). FitKids o kids) (plain-at a r) h.0), all_fit kids h.1)
    fits (given i) h = tt

    all_fit : (ps : Proofs) → HaveFitKids (plain_of a) ps → HaveFitKids a ps
    all_fit no_more h = tt
    all_fit (p ⊳ ps) h = (fits p h.0, all_fit ps h.1)

  mutual
    nodes : (p : Proof) → lowered_nodes (plain_of a) p ≡ lowered_nodes a p
    nodes (by r binds kids) =
        ap (λ (o : Option Known). nodes_at o (lowered_nodes_of (plain_of a) kids)) (plain-at a r)
        ∙ nodes-alike a.table (slice_get (known_of a) r) (lowered_nodes_of (plain_of a) kids)
        ∙ ap (nodes_at (slice_get (known_of a) r)) (all_nodes kids)
    nodes (given i) = refl

    all_nodes : (ps : Proofs) → lowered_nodes_of (plain_of a) ps ≡ lowered_nodes_of a ps
    all_nodes no_more = refl
    all_nodes (p ⊳ ps) = let h = nodes p in let k = all_nodes ps in λ i. h i ∷ k i

  mutual
    height : (p : Proof) → lowered_height (plain_of a) p ≡ lowered_height a p
    height (by r binds kids) =
        ap (λ (o : Option Known). height_at o (lowered_heights_of (plain_of a) kids)) (plain-at a r)
        ∙ height-alike a.table (slice_get (known_of a) r) (lowered_heights_of (plain_of a) kids)
        ∙ ap (height_at (slice_get (known_of a) r)) (all_height kids)
    height (given i) = refl

    all_height : (ps : Proofs) → lowered_heights_of (plain_of a) ps ≡ lowered_heights_of a ps
    all_height no_more = refl
    all_height (p ⊳ ps) = let h = height p in let k = all_height ps in λ i. h i ∷ k i

  mutual
    copies : (p : Proof) → copied (plain_of a) p ≡ copied a p
    copies (by r binds kids) =
        ap (λ (o : Option Known). copied_at o (lowered_nodes_of (plain_of a) kids) (copied_of (plain_of a) kids)) (plain-at a r)
        ∙ copied-alike a.table (slice_get (known_of a) r) (lowered_nodes_of (plain_of a) kids) (copied_of (plain_of a) kids)
        ∙ (let n = all_nodes kids in let c = all_copies kids in λ i. copied_at (slice_get (known_of a) r) (n i) (c i))
    copies (given i) = refl

    all_copies : (ps : Proofs) → copied_of (plain_of a) ps ≡ copied_of a ps
    all_copies no_more = refl
    all_copies (p ⊳ ps) = let h = copies p in let k = all_copies ps in λ i. h i ∷ k i

pub derivations_fit : DerivationsFit
derivations_fit a hyps j p d = derived-fit a hyps j p d

pub plain_rules_count_alike : PlainRulesCountAlike
plain_rules_count_alike a p = (fits a p, nodes a p, height a p, copies a p)
