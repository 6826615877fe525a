-- The step that reads a body has one result, but for two readings that a stop may show.
use Rattle.std.proofs.Common.{◌≡◌, ◌≢◌, ◌⊎◌, inl, inr, ℕ, List, [], length, refl, sym, ap, ◌∙◌}
use Rattle.std.proofs.Common.{subst}
use Rattle.std.specs.Prelude.{Result, Ok, Err, Some}
use Rattle.sx_term.specs.declared.role.Role.TheVariants.{Sub}
use Rattle.sx_term.specs.Tree.{Tree}
use Rattle.sx_token.specs.declared.token.Token.{Token}
use Rattle.sx_notation.specs.declared.unread.Unread.TheVariants as unread
use Rattle.sx_notation.specs.WhyUnread.{IsUnreadAs}
use Rattle.sx_notation.proofs.OneReasons.{unread_or_read}
use Rattle.sx_rules.specs.Modes.{AllModed}
use Rattle.sx_rules.specs.Views.{modes_of}
use Rattle.sx_typing.specs.declared.module_error.ModuleError.{ModuleError}
use Rattle.sx_typing.specs.declared.module_error.ModuleError.TheVariants as module_error
use Rattle.sx_typing.specs.Alike.{AreTypingsAlike, BodyHasThree}
use Rattle.sx_typing.specs.Goals.{dialect_rules}
use Rattle.sx_typing.specs.Refused.{HasReadBody, IsBadSource}
use Rattle.sx_typing.specs.BodySource.{BodySource, main_sort}
use Rattle.sx_typing.proofs.OneBody.{one_cut, defect_or_cut}
use Rattle.sx_typing.proofs.OneTyping.{one_typing, same_body}
use Rattle.sx_steps.specs.declared.stop.Stop.{Stop}
use Rattle.sx_steps.specs.Agree.{AreReadings, AnswersBy}
use Rattle.sx_steps.proofs.Ones.{as_answer, none_some, some_same}
use Rattle.sx_headers.specs.TextStops.{unread_text}
use Rattle.sx_verify.specs.Ground.{HasSubject, body_stop, ReadsBody}

module _ (s : BodySource) (file : List ℕ) where
  -- a body that is read is not refused
  no_body : (e : ModuleError) (stop : Stop) → IsBadSource s 0 e → body_stop file e ≡ Some stop →
      HasReadBody s → ⊥
  no_body (module_error.Token line column e) stop bad is b =
      defect_or_cut s.dialect.parts s.header.body e b.tokens bad.0 b.read.cut
  no_body (module_error.Read line column u) stop ((ts, cut, why), at) is b =
      let sort = main_sort s.dialect.language Sub in
      let size = length s.header.body in
      unread_or_read s.dialect.parts [] sort b.tokens size u b.reading
      (subst (λ (l : List Token). IsUnreadAs s.dialect.parts [] sort l size u)
      (one_cut s.dialect.parts s.header.body ts b.tokens cut b.read.cut) why) b.read.answer
  no_body module_error.Memory stop bad is b = none_some stop is
  no_body (module_error.TypeError line column text) stop bad is b = none_some stop is
  no_body (module_error.BudgetSpent n) stop bad is b = none_some stop is
  no_body module_error.DepthSpent stop bad is b = none_some stop is
  no_body (module_error.TooDeep n) stop bad is b = none_some stop is
  no_body (module_error.TooBig n) stop bad is b = none_some stop is
  no_body (module_error.RewriteSpent n) stop bad is b = none_some stop is
  no_body module_error.RewriteDeep stop bad is b = none_some stop is
  no_body (module_error.Print part defect) stop bad is b = none_some stop is
  no_body (module_error.Captured word) stop bad is b = none_some stop is

  abbrev body_of : (t : Tree) → HasSubject s (Ok t) → HasReadBody s
  body_of t h = record { tokens = h.0; reading = h.1; subject = t; read = h.2 }

  -- the stops are the same, but for two readings of a body that has more than two
  abbrev pub SameButBody : Stop → Stop → Type 0
  SameButBody x y = (x ≡ y) ⊎ (AreReadings x y × (x.file ≡ file) × BodyHasThree s)

  wants : (stop : Stop) (e : ModuleError) → body_stop file e ≡ Some stop → e ≢ module_error.Memory
  wants stop e is same = none_some stop (sym (ap (body_stop file) same) ∙ is)

  alike : (e d : ModuleError) (x y : Stop) → AreTypingsAlike s e d → body_stop file e ≡ Some x →
      body_stop file d ≡ Some y → SameButBody x y
  alike e d x y (inl same) h k = inl (some_same x y (sym h ∙ ap (body_stop file) same ∙ k))
  alike e d x y (inr show) h k =
      let a = unread_text file show.line show.column (unread.Ambiguous show.one show.other) in
      let b = unread_text file show.line show.column (unread.Ambiguous show.some show.more) in
      let left = some_same a x (sym (ap (body_stop file) show.first) ∙ h) in
      let right = some_same b y (sym (ap (body_stop file) show.second) ∙ k) in
      let are : AreReadings a b = record { file = refl; place = refl; shown = tt } in
      inr (
        subst (λ (z : Stop). AreReadings z y) left
            (subst (λ (z : Stop). AreReadings a z) right are),
        subst (λ (z : Stop). z.file ≡ file) left refl,
        show.three,
      )

  module _ (moded : AllModed (modes_of s.dialect.language.forms) (dialect_rules s.dialect)) where
    pub bodies : (x y : Result Tree Stop) → ReadsBody file s x → ReadsBody file s y →
        AnswersBy SameButBody (as_answer x) (as_answer y)
    bodies (Ok t) (Ok u) h k = (same_body s (body_of t h) (body_of u k)).subject
    bodies (Ok t) (Err y) h (e, bad, is) = absurd (no_body e y bad is (body_of t h))
    bodies (Err x) (Ok u) (e, bad, is) k = absurd (no_body e x bad is (body_of u k))
    bodies (Err x) (Err y) (e, r, is) (d, q, told) =
        alike e d x y
        (one_typing.refused s 0 e d moded r q (wants x e is) (wants y d told)) is told
