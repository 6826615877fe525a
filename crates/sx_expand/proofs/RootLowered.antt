-- The judgement that a derivation is lowered to, by what is read of it.
use Rattle.std.proofs.Common.{◌≡◌, arith, ℕ, min, ◌-◌, ◌^◌, length, Bool, true, false, List, [], ◌∷◌, map, Some, None, if◌then◌else◌, refl, sym, ap, ◌∙◌, subst}
use Rattle.std.specs.Prelude.{Ok, nat_lt, slice_get}
use Rattle.std.proofs.lemmas.Bool.{ltb-false}
use Rattle.std.proofs.lemmas.List.{length-map}
use Rattle.sx_term.specs.Term.{tree}
use Rattle.sx_term.specs.Tree.{Tree, depth_of, size_of}
use Rattle.sx_term.specs.Roles.{is_out, is_sub}
use Rattle.sx_term.specs.Sorts.{Shape}
use Rattle.sx_rules.specs.declared.rule.Judgement.{Judgement as JudgementOf}
use Rattle.sx_rules.specs.declared.rule.Place.{Place}
use Rattle.sx_rules.specs.Deep.{AreShallow}
use Rattle.sx_rules.specs.Derivations.{Proof, by, given, Derives}
use Rattle.sx_rules.specs.Modes.{Goal, inputs, outputs, inputs_of}
use Rattle.sx_rules.specs.Rules.{Judgement, Rule, Hypotheses}
use Rattle.sx_rules.specs.Sets.{forms_in, shapes_in}
use Rattle.sx_rules.specs.Views.{FormData, judgement, places_at}
use Rattle.sx_rules.proofs.Moded.{judgement_same}
use Rattle.sx_plain.specs.Plain.{image}
use Rattle.sx_arena.specs.Arena.{tree_at, AreBelow}
use Rattle.sx_arena.proofs.Arenas.{maps_same, below_more}
use Rattle.sx_arena.proofs.Growing.{extends-length}
use Rattle.sx_rewrite.specs.Accepted.{Accepted, Signature, IsAccepted, extended_rules}
use Rattle.sx_rewrite.specs.Lowers.{Lowers}
use Rattle.sx_rewrite.specs.Measured.{AllPass, ProofPasses, node_terms}
use Rattle.sx_rewrite.specs.Puts.{IsSmallTerm}
use Rattle.sx_rewrite.specs.Rewriting.{too_deep, too_big, first_over}
use Rattle.sx_rewrite.proofs.Lowerings.{lowered_are_derivations}
use Rattle.sx_rewrite.proofs.LoweredAlways.{lowering_exists}
use Rattle.sx_rewrite.proofs.Measured.{terms_are_measured, measured_are_all}
use Rattle.sx_expand.specs.declared.reading.Reading.{Reading}
use Rattle.sx_expand.specs.declared.read.Read.{Read}
use Rattle.sx_expand.specs.declared.reader.Reader.{Reader}
use Rattle.sx_expand.specs.Expansions.{HasOneSubject}
use Rattle.sx_expand.specs.KidSubjects.{IsSubjectAt}
use Rattle.sx_expand.specs.Readings.{AllSmall, IsListReading, set_by, signature_by, hyps_by}
use Rattle.sx_expand.specs.ReadDerivations.{IsDerivationRead}
use Rattle.sx_expand.specs.Readers.{terms_in, ReaderGoesOn}
use Rattle.sx_expand.specs.Roots.{StandAt, roles_of, IsRoot, IsRootLowered}
use Rattle.sx_expand.proofs.Givens.{given-small, given-many, given-fits}
use Rattle.sx_expand.proofs.NodeSubject.{node-places}
use Rattle.sx_expand.proofs.RootTerms.{AreSubject, stand-at, outs-same, subs-same, both-shallow, outputs-many, one-subject, places-many, places-fit}

-- terms that pass no limit
abbrev is_small : Tree → Bool
is_small t = if nat_lt 1000 (depth_of t) then false else if nat_lt 1000000 (size_of t) then false else true

not-over : (ts : List Tree) → first_over ts ≡ None → AllPass is_small ts
not-over [] e = tt
not-over (t ∷ ts) e = go (not-over ts) (nat_lt 1000 (depth_of t)) (nat_lt 1000000 (size_of t)) refl refl e
  where
    go : (first_over ts ≡ None → AllPass is_small ts) → (x y : Bool) → nat_lt 1000 (depth_of t) ≡ x → nat_lt 1000000 (size_of t) ≡ y →
        (if x then Some (too_deep (depth_of t)) else if y then Some (too_big (min (size_of t) (2 ^ 64 - 1))) else first_over ts) ≡ None → AllPass is_small (t ∷ ts)
    go again true y q r f = cc
    go again false true q r f = cc
    go again false false q r f = (
      ap (λ (b : Bool). if b then false else if nat_lt 1000000 (size_of t) then false else true) q
          ∙ ap (λ (b : Bool). if b then false else true) r,
      again f,
    )

passed : (ts : List Tree) → AllPass is_small ts → AllSmall ts
passed [] h = tt
passed (t ∷ ts) h = (go (nat_lt 1000 (depth_of t)) (nat_lt 1000000 (size_of t)) refl refl h.0, passed ts h.1)
  where
    go : (x y : Bool) → nat_lt 1000 (depth_of t) ≡ x → nat_lt 1000000 (size_of t) ≡ y → (if x then false else if y then false else true) ≡ true → IsSmallTerm t
    go true y q r e = cc
    go false true q r e = cc
    go false false q r e = let a = ltb-false 1000 (depth_of t) q in let b = ltb-false 1000000 (size_of t) r in (omega (arith, a), omega (arith, b))

places-small : (base : List Rule) (hyps : Hypotheses) → ((i : ℕ) (j : Judgement) → slice_get hyps.judgements i ≡ Some j → AllSmall j.places) →
    (q : Proof) (k : Judgement) → Derives base hyps k q → ProofPasses is_small base q → AllSmall k.places
places-small base hyps f (given i) k d h = f i k d
places-small base hyps f (by r binds kids) k d h = node-places base hyps r binds kids k d (passed (node_terms (slice_get base r) binds) h.0)

module _ (l : Reading) (good : IsListReading l) where
  ok : IsAccepted (signature_by l) (shapes_in l.listing.set.now.base) (shapes_in l.listing.set.now.rules) (set_by l)
  ok = good.rules.accepted_with

  abbrev forms : List FormData
  forms = forms_in l.listing.set.now.base

  abbrev base : List Shape
  base = shapes_in l.listing.set.now.base

  abbrev shapes : List Shape
  shapes = shapes_in l.listing.set.now.rules

  abbrev set : Accepted
  set = set_by l

  abbrev sig : Signature
  sig = signature_by l

  module _ (form : ℕ) (numbers : List ℕ) (old new : Reader) (below : AreBelow (length (terms_in old)) numbers) (near : AreShallow (map (tree_at (terms_in old)) numbers)) (one : HasOneSubject forms form)
      (on : ReaderGoesOn set.table old new) (r : Read) (j : Judgement) (p : Proof) (root : IsRoot l (record { form = form; terms = map (tree_at (terms_in old)) numbers }) j p) where
    form-is : j.form ≡ form
    form-is = ap (λ (g : Goal). g.form) root.goal_is

    terms-are : map (tree_at (terms_in old)) numbers ≡ inputs_of sig.modes j
    terms-are = sym (ap (λ (g : Goal). g.terms) root.goal_is)

    module _ (read : IsDerivationRead l (terms_in new) true j p (Ok r)) where
      pub stands : (q : Proof) (k : Judgement) → Lowers set sig.subjects (hyps_by l) p q k → StandAt set.table (terms_in new) r.subject (roles_of (places_at forms form)) numbers r.outputs.items k.places
      stands q k lowers =
          let ps = places_at forms j.form in
          let d = lowered_are_derivations sig base shapes set ok (hyps_by l) good.given.below p q j k root.can.derives lowers in
          let kid = read.2 refl in
          let measured = terms_are_measured sig base shapes set ok (hyps_by l) p j root.can.derives in
          let small = places-small set.base (hyps_by l) (given-small l.listing.set.now (hyps_by l) good.given) q k d.0 (measured_are_all sig base shapes set ok (hyps_by l) p q k measured.0 lowers measured.1 is_small (not-over measured.0 (kid.small measured.0 measured.1))) in
          let outs : List Bool = map (λ (x : Place). is_out x.role) ps in
          let subs : List Bool = map (λ (x : Place). is_sub x.role) ps in
          let js-many = places-many shapes sig.forms (extended_rules set) ok.sorted (hyps_by l) (given-many l.listing.set.now (hyps_by l) good.given) p j root.can.derives ∙ length-map ps (λ (x : Place). x.sort) in
          let ks-many = places-many base sig.forms set.base ok.base_sorted (hyps_by l) (given-many l.listing.set.now (hyps_by l) good.given) q k d.0 ∙ ap (λ (n : ℕ). length (sig.forms n)) d.1.same_form ∙ length-map ps (λ (x : Place). x.sort) in
          let roles-many = length-map ps (λ (x : Place). x.role) in
          let subs-many = length-map ps (λ (x : Place). is_sub x.role) in
          let ins : map (tree_at (terms_in new)) numbers ≡ inputs outs j.places = maps_same (terms_in old) (terms_in new) on.extends numbers below ∙ terms-are in
          let others : inputs subs k.places ≡ map (image set.table) (inputs subs j.places) = sym (ap (λ (n : ℕ). inputs (sig.subjects n) k.places) d.1.same_form) ∙ d.1.images in
          let few = outputs-many subs k.places ps (ks-many ∙ sym subs-many) (sym subs-many) in
          let here = subst (λ (n : ℕ). HasOneSubject forms n) (sym form-is) one in
          let subject = subst (λ (n : ℕ). IsSubjectAt (terms_in new) (outputs (sig.subjects n) k.places) r.subject) d.1.same_form (kid.subject q k lowers) in
          let own = one-subject (terms_in new) (outputs subs k.places) r.subject (omega (arith, few, here)) subject in
          let shallow = both-shallow outs j.places (subst AreShallow terms-are near) root.near in
          let fits = places-fit shapes sig.forms (extended_rules set) ok.sorted base set.table ok.desugars (hyps_by l) (λ i x e. given-fits l.listing.set.now (hyps_by l) good.given i x e set.table ok.desugars.is_table) p j root.can.derives root.can.fit in
          let n = extends-length (terms_in old) (terms_in new) on.extends in
          subst (λ (f : ℕ). StandAt set.table (terms_in new) r.subject (roles_of (places_at forms f)) numbers r.outputs.items k.places) form-is
          (stand-at set.table (terms_in new) r.subject (roles_of ps) numbers r.outputs.items j.places k.places
          (below_more (length (terms_in old)) (length (terms_in new)) n numbers below) read.0
          (subst (λ (bs : List Bool). map (tree_at (terms_in new)) numbers ≡ inputs bs j.places) (outs-same ps) ins)
          (subst (λ (bs : List Bool). map (tree_at (terms_in new)) r.outputs.items ≡ outputs bs j.places) (outs-same ps) read.1)
          (subst (λ (bs : List Bool). inputs bs k.places ≡ map (image set.table) (inputs bs j.places)) (subs-same ps) others)
          (subst (λ (bs : List Bool). AreSubject (terms_in new) r.subject (outputs bs k.places)) (subs-same ps) own)
          (omega (arith, js-many, roles-many)) (omega (arith, ks-many, roles-many)) shallow fits small)

      -- there is such a judgement
      pub some-stands : (ks : List Tree) × StandAt set.table (terms_in new) r.subject (roles_of (places_at forms form)) numbers r.outputs.items ks
      some-stands = let w = lowering_exists sig base shapes set ok (hyps_by l) p j root.can.derives in (w.1.places, stands w.0 w.1 w.2)

      -- the judgement with these places is the lowered one
      pub root-judged : (x : JudgementOf) → x.form ≡ form →
          ((ks : List Tree) → StandAt set.table (terms_in new) r.subject (roles_of (places_at forms form)) numbers r.outputs.items ks → map tree x.places.items ≡ ks) → IsRootLowered l p (Ok x)
      root-judged x same f = (
        (λ q k lowers.
            let d = lowered_are_derivations sig base shapes set ok (hyps_by l) good.given.below p q j k root.can.derives lowers in
            judgement_same (judgement x) k (same ∙ sym form-is ∙ sym d.1.same_form) (f k.places (stands q k lowers))),
        (read.2 refl).small,
      )
