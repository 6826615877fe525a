use Rattle.std.proofs.Common.{◌≡◌, ◌+◌, ◌++◌, ◌∷◌, [], sym, subst, ap, ◌∙◌, length, take, get_or, arith}
use Rattle.std.proofs.lemmas.Bool.{false≢true}
use Rattle.std.proofs.lemmas.List.{take_all, take_more, length-map}
use Rattle.sx_grammar.specs.Grammar.{production_of}
use Rattle.sx_earley.specs.Shown.{plain, literal_texts, token_of, tokens_of}
use Rattle.sx_earley.specs.Completed.{head_of}
use Rattle.sx_earley.specs.declared.span.Span.{Span}
use Rattle.sx_forest.specs.Useful.{IsProductionKept, levels_at, KeepsHead}
use Rattle.sx_forest.proofs.Using.{met_by_numbers}
use Rattle.sx_forest.proofs.Filling.{no_span}
use Rattle.sx_forest.proofs.Sifting.{Sifted, none_taken, sift_none, sift_more, sift_less, sifted_only, sifted_every, sifted_once}
use Rattle.sx_forest.proofs.useful.useful_spans.Goals as goal
use Rattle.sx_forest.proofs.useful.useful_spans.Goals.{then-keeps+in_ok-push, else-keeps}

pub loop-span-init : goal.loop-span-init
loop-span-init c =
    let P : Span → Type 0 = λ s. KeepsHead (plain c.args.grammar.now) c.in_ok-levels.levels (head_of s.of) s.to in
    subst (λ l. Sifted P l c.new-useful.result.items) (sym (none_taken c.args.spans.now)) (subst (Sifted P []) (sym c.new-useful.ensures.items) sift_none)

pub loop-span-preserved : goal.loop-span-preserved
loop-span-preserved c =
    let g = plain c.args.grammar.now in let levels = c.in_ok-levels.levels in
    let P : Span → Type 0 = λ s. KeepsHead g levels (head_of s.of) s.to in
    let spans = c.args.spans.now in let n = c.loop-span.span-index in let s = get_or spans n no_span in
    let more : take (n + 1) spans ≡ take n spans ++ s ∷ [] = take_more spans n no_span c.loop-span-test.true in
    let row : c.at.result.now ≡ levels_at levels s.to = c.at.ensures in
    let to : IsProductionKept c.at.result.now (production_of g c.head_of.result) → P s =
    λ h. subst (λ l. IsProductionKept l (production_of g (head_of s.of))) row (subst (λ x. IsProductionKept c.at.result.now (production_of g x)) c.head_of.ensures h) in
    let back : P s → IsProductionKept c.at.result.now (production_of g c.head_of.result) =
    λ h. subst (λ x. IsProductionKept c.at.result.now (production_of g x)) (sym c.head_of.ensures) (subst (λ l. IsProductionKept l (production_of g (head_of s.of))) (sym row) h) in
    subst (λ l. Sifted P l c.if-keeps.useful.items) (sym more) (elim c.if-keeps.branch [
      | then-keeps+in_ok-push w ↦
          let made = ap (λ u. u.items) w.useful-is ∙ w.in_ok-push.ensures.items in
          subst (Sifted P (take n spans ++ s ∷ [])) (sym made) (sift_more P c.loop-span.invariant s (to (c.keeps.ensures.0 w.if-keeps.true)))
      | else-keeps w ↦
          let made = ap (λ u. u.items) w.useful-is in
          subst (Sifted P (take n spans ++ s ∷ [])) (sym made) (sift_less P c.loop-span.invariant s (λ h. false≢true (sym w.if-keeps.false ∙ c.keeps.ensures.1 (back h))))
    ])

pub returns : goal.returns
returns c =
    let g = plain c.args.grammar.now in let ts = tokens_of c.args.grammar.now c.args.shown.now in
    let levels = c.in_ok-levels.levels in let spans = c.args.spans.now in
    let P : Span → Type 0 = λ s. KeepsHead g levels (head_of s.of) s.to in
    let long : length ts ≡ length c.args.shown.now = length-map c.args.shown.now (token_of (literal_texts c.args.grammar.now)) in
    let sifted : Sifted P spans c.loop-span.useful.items =
    subst (λ l. Sifted P l c.loop-span.useful.items) (take_all c.loop-span.span-index spans (omega arith)) c.loop-span.invariant in
    let short = c.in_ok-levels.ensures.short in
    record {
      are = record {
        levels = levels;
        short = omega arith;
        met = met_by_numbers g ts levels c.in_ok-levels.ensures.met;
        are = λ s. (
          (λ there. let o = sifted_only P sifted s there in ((c.requires.chart s).0 o.0, o.1)),
          (λ span. sifted_every P sifted s ((c.requires.chart s).1 span.0) span.1),
        );
      };
      once = sifted_once P sifted c.requires.once;
    }
