-- A node whose kids are read is read, or refused.
use Rattle.std.proofs.Common.{◌≡◌, ℕ, inl, inr, Bool, List, length, Option, Some, None, option_map, refl, sym, ap, ◌∙◌, subst}
use Rattle.std.specs.Prelude.{slice_get}
use Rattle.sx_term.specs.Tree.{Tree}
use Rattle.sx_term.specs.Sorts.{Shape}
use Rattle.sx_rules.specs.Rules.{Hypotheses, judgements_of}
use Rattle.sx_rules.specs.Derivations.{Proof, Proofs, by, ShallowJudgements}
use Rattle.sx_rewrite.specs.declared.rewrite_error.RewriteError.{RewriteError}
use Rattle.sx_rewrite.specs.declared.rewrite_error.RewriteError.TheVariants.{Memory}
use Rattle.sx_rewrite.specs.Accepted.{Known, basic, checked, Checked, rule_in, Accepted, known_of}
use Rattle.sx_rewrite.specs.Accepted.{Signature, IsAccepted}
use Rattle.sx_rewrite.specs.Lowering.{own_terms, CanLower, AreLoweredTo, IsLoweringRefused}
use Rattle.sx_rewrite.specs.Lowers.{HypothesesBelow}
use Rattle.sx_rewrite.specs.Measured.{Measures}
use Rattle.sx_rewrite.specs.Needed.{needed}
use Rattle.sx_rewrite.specs.PutImages.{images_for}
use Rattle.sx_rewrite.specs.PutSubjects.{ArePutBelow}
use Rattle.sx_rewrite.specs.Puts.{Tells}
use Rattle.sx_rewrite.specs.Rewriting.{RewriteRefusal, first_over}
use Rattle.sx_rewrite.specs.Stored.{stored_in, certificate_at}
use Rattle.sx_rewrite.proofs.LoweredKids.{need_of}
use Rattle.sx_rewrite.proofs.LoweredNode as node
use Rattle.sx_expand.specs.LoweredNodes.{NodeOver, ArePutFor, IsOwnSubject, IsNodeRefused}
use Rattle.sx_expand.proofs.KidsLowered.{KidsLoweredTo}

-- the node's own terms, told in two ways
own-same : (a : Accepted) (known : Known) (r : ℕ) (more : List Tree) → node.own_terms a known r more ≡ own_terms a.base (option_map (λ (c : Checked). c.proof) (stored_in (Some known))) r more
own-same a (basic rule) r more = refl
own-same a (checked c) r more = refl

pub tells-memory : (o : Option RewriteRefusal) (e : RewriteError) → e ≡ Memory → Tells o e
tells-memory o e same = subst (λ (x : RewriteError). Tells o x) (sym same) tt

module _ (sig : Signature) (base shapes : List Shape) (a : Accepted) (ok : IsAccepted sig base shapes a) (hyps : Hypotheses) (below : HypothesesBelow (length base) hyps) (near : ShallowJudgements hyps.judgements)
    (r : ℕ) (binds : List Tree) (kids : Proofs) (can : CanLower a hyps (by r binds kids)) (known : Known) (at_r : slice_get (known_of a) r ≡ Some known)
    (terms : List Tree) (numbers : List (Option ℕ)) (kl : KidsLoweredTo a sig hyps (needed (certificate_at a r)) terms kids numbers) where
  abbrev over : NodeOver
  over = record { rule = r; known = known; binds = binds; kids = kl.news; count = length numbers }

  certificate-is : certificate_at a r ≡ option_map (λ (c : Checked). c.proof) (stored_in (Some known))
  certificate-is = ap (λ (o : Option Known). option_map (λ (c : Checked). c.proof) (stored_in o)) at_r

  need-is : needed (certificate_at a r) ≡ need_of known
  need-is = ap needed certificate-is

  pub lowered : AreLoweredTo a sig.subjects hyps (need_of known) kids kl.news
  lowered = subst (λ (need : ℕ → Bool). AreLoweredTo a sig.subjects hyps need kids kl.news) need-is kl.lowered

  pub puts : (more : List Tree) → ArePutFor a sig.subjects hyps over more →
      ArePutBelow sig.subjects a.base hyps (need_of known) (judgements_of (rule_in known).premises) kl.news (length numbers) (images_for a.table (rule_in known).sorts binds) more
  puts more p = subst (λ (need : ℕ → Bool). ArePutBelow sig.subjects a.base hyps need (judgements_of (rule_in known).premises) kl.news (length numbers) (images_for a.table (rule_in known).sorts binds) more) need-is p

  pub own-is : (more : List Tree) → node.own_terms a known r more ≡ own_terms a.base (certificate_at a r) r more
  own-is more = own-same a known r more ∙ ap (λ (o : Option Proof). own_terms a.base o r more) (sym certificate-is)

  -- none of the terms that are measured for it passes a limit
  pub node-small : (later : List Tree) (number : Option ℕ) → IsOwnSubject a sig.subjects hyps later over number → (ts : List Tree) → Measures a sig.subjects hyps (by r binds kids) ts → first_over ts ≡ None
  node-small later number own ts m =
      node.node-terms sig base shapes a ok hyps below near r binds kids can known at_r kl.news lowered (length numbers) (sym kl.subjects.many) own.more (puts own.more own.put) ts m
      ∙ ap first_over (own-is own.more) ∙ own.small

  -- or the error tells the first that does
  pub node-refused : (e : RewriteError) → IsNodeRefused a sig.subjects hyps over e → IsLoweringRefused a sig.subjects hyps (by r binds kids) e
  node-refused e (inl same) = λ ts m. tells-memory (first_over ts) e same
  node-refused e (inr (more, put, tells)) =
      node.node-refuses sig base shapes a ok hyps below near r binds kids can known at_r kl.news lowered (length numbers) (sym kl.subjects.many) more (puts more put) e
      (subst (λ (us : List Tree). Tells (first_over us) e) (sym (own-is more)) tells)
