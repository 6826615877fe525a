use Rattle.std.proofs.Common.{◌≡◌, ◌++◌, ◌∷◌, ◌∙◌, List, [], map, sym, ap}
use Rattle.std.proofs.lemmas.List.{map-append, append-nil}
use Rattle.sx_term.specs.Tree.{Tree}
use Rattle.sx_term.specs.declared.term.Term.{Term}
use Rattle.sx_term.specs.Term.{tree}
use Rattle.sx_rules.specs.Rules.{Judgement}
use Rattle.sx_rules.specs.Views.{judgement, pair}
use Rattle.sx_extcheck.proofs.flat_premises.add_premise.Goals as goal

-- one more pair, whose terms are these
paired : (ps new : List (Term × Term)) (l r : Term) (s t : Tree) → new ≡ ps ++ (l, r) ∷ [] → tree l ≡ s → tree r ≡ t → map pair new ≡ map pair ps ++ (s, t) ∷ []
paired ps new l r s t e f g = ap (map pair) e ∙ map-append pair ps ((l, r) ∷ []) ∙ (λ i. map pair ps ++ (f i, g i) ∷ [])

same_held : (js : List Judgement) → js ≡ js ++ []
same_held js = sym (append-nil js)

pub returns-in_ok-push-in-Apart : goal.returns-in_ok-push-in-Apart
returns-in_ok-push-in-Apart c =
    rw c.in-Apart.is (λ i. record {
      judgements = same_held (map judgement c.args.given.now.holds.items) i;
      pairs = paired c.args.given.now.apart.items c.push-in-Apart.new.self.items _ _ _ _ c.in_ok-push-in-Apart.ensures.items c.in_ok-left-in-Apart.ensures c.in_ok-right-in-Apart.ensures i;
    })
