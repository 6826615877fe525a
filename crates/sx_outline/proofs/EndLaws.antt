-- The outline at the end of the lines.
use Rattle.std.proofs.Common.{◌≡◌, ℕ, Err, List, [], ◌∷◌, Some, refl, sym, ap, subst, ◌∙◌}
use Rattle.sx_grammar.specs.Parts.{Parts}
use Rattle.sx_directives.specs.declared.rows.MainLine.{MainLine}
use Rattle.sx_lines.specs.declared.kind.Kind.TheVariants.{Head, Unfinished}
use Rattle.sx_outline.specs.declared.main_form.MainForm.{MainForm}
use Rattle.sx_outline.specs.declared.outline_error.OutlineError.{OutlineError}
use Rattle.sx_outline.specs.declared.outline_error.OutlineError.TheVariants.{Notation}
use Rattle.sx_outline.specs.declared.stage.Stage.{Stage as StageOf}
use Rattle.sx_outline.specs.declared.stage.Stage.TheVariants.{Start, Declarations, Body, Plains}
use Rattle.sx_outline.specs.declared.stage.Stage.TheVariants.{Rules, Premises, Conclusion, End}
use Rattle.sx_outline.specs.Declarations.{Declared, declared_parts}
use Rattle.sx_outline.specs.Fitting.{IsMainOf}
use Rattle.sx_outline.specs.Stages.{State, Stage, IsInside, IsWhole}
use Rattle.sx_outline.specs.Outlined.{OutlineData, declared_by, IsOutlineOf}
use Rattle.sx_outline.specs.Reading.{IsMainRead, IsEndRead, stage}

one_main : (known : Declared) (main : MainForm) (mains : List MainLine) → IsMainRead known (Some main) mains → (m : MainLine) × (mains ≡ m ∷ []) × IsMainOf known m main
one_main known main [] h = absurd h
one_main known main (m ∷ []) h = (m, refl, h)
one_main known main (m ∷ n ∷ mains) h = absurd h

pub all_same : (d e : Declared) → d.sorts ≡ e.sorts → d.productions ≡ e.productions → d.vars ≡ e.vars → d.forms ≡ e.forms → d.mains ≡ e.mains → d.uses ≡ e.uses → d ≡ e
all_same d e a b c f g u = λ i. record { sorts = a i; productions = b i; vars = c i; forms = f i; mains = g i; uses = u i }

-- an outline that has what is known, and the main form of the main line
pub finished : (known : Declared) (s : State) (o : OutlineData) → s.declared ≡ known → known.uses ≡ [] → IsMainRead known (Some o.main) s.declared.mains
    → o.parts ≡ declared_parts known → o.vars ≡ known.vars → o.forms ≡ known.forms → o.rules ≡ s.rules → IsOutlineOf s o
finished known s o e uses main parts vars forms rules =
    let one = one_main known o.main s.declared.mains main in
    record {
      line = one.0;
      declared = e ∙ all_same known (declared_by o one.0) (sym (ap (λ (p : Parts). p.sorts) parts)) (sym (ap (λ (p : Parts). p.productions) parts)) (sym vars) (sym forms)
          (ap (λ (x : Declared). x.mains) (sym e) ∙ one.1) uses;
      main = subst (λ x. IsMainOf x one.0 o.main) (sym e) one.2;
      rules = sym rules;
    }

-- a rule or a plain pair is not ended
pub left_open : (s : State) (given : Stage) (end number : ℕ) (e : OutlineError) → given ≡ s.stage → IsInside given number → e ≡ Notation number Unfinished → IsEndRead s end (Err e)
left_open s given end number e is inside f = subst (λ x. IsEndRead s end (Err x)) (sym f) (subst (λ x. IsInside x number) is inside)

-- no line was read
pub no_line : (s : State) (given : StageOf) (end : ℕ) (e : OutlineError) → stage given ≡ s.stage → given ≡ Start → e ≡ Notation end Head → IsEndRead s end (Err e)
no_line s given end e is at f = subst (λ x. IsEndRead s end (Err x)) (sym f) (sym is ∙ ap stage at, refl)

-- where nothing is open and a line was read, what was read is whole
pub is_whole : (given : StageOf) → (given ≡ Start → ⊥) → ((number : ℕ) → IsInside (stage given) number → ⊥) → IsWhole (stage given)
is_whole Start begun none = absurd (begun refl)
is_whole Declarations begun none = tt
is_whole (Body b) begun none = absurd (none b.number refl)
is_whole Plains begun none = tt
is_whole Rules begun none = tt
is_whole (Premises b) begun none = absurd (none b.number refl)
is_whole (Conclusion b) begun none = absurd (none b.number refl)
is_whole (End r) begun none = absurd (none r.number refl)
