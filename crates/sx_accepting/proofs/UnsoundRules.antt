-- An extension is refused for a type error only where a rule is not sound.
use Rattle.std.proofs.Common.{◌≡◌, ℕ, ◌+◌, List, [], ◌∷◌, ◌++◌, map, inl, inr, refl, sym, ap, ◌∙◌}
use Rattle.std.proofs.Common.{subst}
use Rattle.std.specs.Prelude.{Ok, Err, Some}
use Rattle.sx_rules.specs.Modes.{AllModed}
use Rattle.sx_rules.specs.Views.{named}
use Rattle.sx_rewrite.specs.declared.ext_rule.ExtRule.{ExtRule as ExtRuleOf}
use Rattle.sx_rewrite.specs.Accepted.{extended_rules}
use Rattle.sx_rewrite.specs.ExtensionView.{ext_rule}
use Rattle.sx_rewrite.specs.PlainRules.{plain_of}
use Rattle.sx_rewrite.proofs.LoweredSorted.{moded-base}
use Rattle.sx_rewrite.proofs.PlainSets.{plain_rules_are_accepted}
use Rattle.sx_rewrite.proofs.Sound.{rejected_is_unsound}
use Rattle.sx_extcheck.specs.declared.accept_error.AcceptError.{AcceptError}
use Rattle.sx_extcheck.specs.declared.accept_error.AcceptError.TheVariants.{Memory, Rule}
use Rattle.sx_extcheck.specs.declared.budgets.Budgets.{Budgets}
use Rattle.sx_extcheck.specs.declared.rule_refusal.RuleRefusal.{RuleRefusal}
use Rattle.sx_extcheck.specs.declared.rule_refusal.RuleRefusal.TheVariants as rule_defect
use Rattle.sx_extcheck.specs.Accepts.{AreRulesChecked, HasUnsound}
use Rattle.sx_extcheck.specs.Checks.{Check}
use Rattle.sx_extcheck.proofs.StoredRules.{checked-rejected}
use Rattle.sx_extension.specs.declared.extension_error.ExtensionError.{ExtensionError}
use Rattle.sx_extension.specs.declared.extension_error.ExtensionError.TheVariants as extension_error
use Rattle.sx_extension.specs.declared.plain_defect.PlainDefect.{PlainDefect}
use Rattle.sx_extension.specs.declared.plain_defect.PlainDefect.TheVariants as plain_defect
use Rattle.sx_derive.specs.declared.blame.Blame.{Blame}
use Rattle.sx_words.specs.declared.position.Position.TheVariants as places
use Rattle.sx_steps.specs.Steps.{NoTries, Untried}
use Rattle.sx_steps.specs.Stops.{defect_at}
use Rattle.sx_steps.specs.declared.stop.Stop.{Stop}
use Rattle.sx_steps.proofs.Ones.{ok_same, ok_no_err}
use Rattle.sx_steps.proofs.StepsOn.{went_on}
use Rattle.sx_steps.proofs.TypeErrors.{OnTypeError, on_stop, Final, FinalTrying, trying_final}
use Rattle.sx_steps.proofs.TypeErrors.{and_then_final}
use Rattle.sx_uses.specs.ExtensionFile.{Extension, extension_file}
use Rattle.sx_accepting.specs.AcceptanceStops.{Refusing, defect_of, acceptance_stop}
use Rattle.sx_accepting.specs.ExtendedLanguages.{BaseLanguage, ExtendedData, unextended}
use Rattle.sx_accepting.specs.ExtensionStops.{bad_plain, extension_stop}
use Rattle.sx_accepting.specs.Extending.{ReadData, bodies_in, ReadsAfter, check_after, HaveChecks}
use Rattle.sx_accepting.specs.Extending.{Accepts, ExtendsBy, ExtendsLanguage}
use Rattle.sx_accepting.specs.Laws.{IsAcceptedOver, StopsAtUnsound, UnsoundIsFinal}
use Rattle.sx_accepting.specs.ReadLanguage.{base_in}
use Rattle.sx_accepting.proofs.AcceptedExtended.{accepted_begin, accepted_by}
use Rattle.sx_accepting.proofs.OneExtended.{set_is}
use Rattle.sx_accepting.proofs.TypeErrors.{no_language}

module _ (Q : Stop → Type 0) where
  -- ---- extensions that are read

  no_plain : (file label : List ℕ) (e : PlainDefect) → OnTypeError Q (Some (bad_plain file label e))
  no_plain file label plain_defect.Twice = λ h. absurd h
  no_plain file label (plain_defect.UsesLater used) = λ h. absurd h
  no_plain file label (plain_defect.Drops name) = λ h. absurd h
  no_plain file label (plain_defect.TooDeep depth) = λ h. absurd h
  no_plain file label (plain_defect.TooBig size) = λ h. absurd h

  no_extension : (file : List ℕ) (e : ExtensionError) → OnTypeError Q (extension_stop file e)
  no_extension file extension_error.Memory = tt
  no_extension file (extension_error.Notation e) = no_language Q file e
  no_extension file (extension_error.Plain label e) = no_plain file label e
  no_extension file (extension_error.NoPlain label) = λ h. absurd h
  no_extension file (extension_error.NoBody rule) = λ h. absurd h
  no_extension file (extension_error.BodySort rule) = λ h. absurd h
  no_extension file (extension_error.BodyExtended rule) = λ h. absurd h

  reads_after_final : (l : BaseLanguage) (so_far : ExtendedData) (file : Extension) → Final Q (ReadsAfter l so_far file)
  reads_after_final l so_far file stop h = on_stop Q (extension_stop (extension_file file.header.name) h.0) stop (no_extension (extension_file file.header.name) h.0) h.2

  -- ---- extensions that are accepted

  no_defect : (file : List ℕ) (r : Refusing) (name : List ℕ) (d : RuleRefusal) → ((b : Blame) → d ≡ rule_defect.Rejected b → (stop : Stop) → stop.file ≡ file → stop.refusal.place ≡ places.Rule name → Q stop) →
      OnTypeError Q (acceptance_stop file r (Rule name d))
  no_defect file r name (rule_defect.Rejected b) so = λ h. so b refl (defect_at (places.Rule name) file (defect_of r name (rule_defect.Rejected b))) refl refl
  no_defect file r name (rule_defect.BudgetSpent n) so = λ h. absurd h
  no_defect file r name (rule_defect.DepthSpent n) so = λ h. absurd h
  no_defect file r name (rule_defect.TooDeep n) so = λ h. absurd h
  no_defect file r name (rule_defect.TooBig n) so = λ h. absurd h
  no_defect file r name (rule_defect.RewriteSpent n) so = λ h. absurd h
  no_defect file r name rule_defect.RewriteDeep so = λ h. absurd h

-- ---- a rule that is not sound

module _ (c : Check) (base_moded : AllModed c.sig.modes c.set.base) (plain_moded : AllModed c.sig.modes (extended_rules (plain_of c.set))) where
  unsound_among : (es : List ExtRuleOf) (count : ℕ) (name : List ℕ) (b : Blame) → AreRulesChecked c es count (Err (Rule name (rule_defect.Rejected b))) → HasUnsound c es name
  unsound_among [] count name b h = absurd h
  unsound_among (e ∷ es) count name b (inl (same, refused, n)) =
      inl (same, λ s sound. rejected_is_unsound c.sig c.labels c.set (ext_rule e) s (checked-rejected c (ext_rule e) base_moded plain_moded refused.0) sound)
  unsound_among (e ∷ es) count name b (inr (s, st, rest, n, more)) = inr (unsound_among es rest name b more)

module _ (l : BaseLanguage) (budgets : Budgets) where
  -- one extension more at the end
  one_more : (files : List Extension) (file : Extension) (x y z : ExtendedData) (m n : ℕ) → ExtendsLanguage l budgets files x (Ok y) m → ExtendsBy l budgets file y (Ok z) n →
      (k : ℕ) × ExtendsLanguage l budgets (files ++ file ∷ []) x (Ok z) k
  one_more [] file x y z m n h k = (
    n + 0,
    record {
      given = Ok z;
      before = n;
      after = 0;
      begins = subst (λ (w : ExtendedData). ExtendsBy l budgets file w (Ok z) n) (ok_same y x h.0) k;
      goes = (refl, refl);
      sum = refl;
    },
  )
  one_more (f ∷ files) file x y z m n h k =
      let at = went_on _ _ _ m h in
      let rest = one_more files file at.given y z at.after n at.goes k in
      (at.before + rest.0, record { given = Ok at.given; before = at.before; after = rest.0; begins = at.begins; goes = rest.1; sum = refl })

  -- an extension that is not accepted has a rule that is not sound, if that is a type error
  module _ (Q : Stop → Type 0) (file : List ℕ) (x : ExtendedData) (over : IsAcceptedOver l x) (this : Extension) (read : ReadData) (reads : ReadsAfter l x this (Ok read))
      (so : (es : List ExtRuleOf) (rule : List ℕ) → map (λ e. named e.rule) es ≡ read.rules → bodies_in es ≡ read.bodies → HasUnsound (check_after x.set read.table budgets) es rule →
      (stop : Stop) → stop.file ≡ file → stop.refusal.place ≡ places.Rule rule → Q stop) where
    abbrev c : Check
    c = check_after x.set read.table budgets

    rejected : (name : List ℕ) (b : Blame) (tries : ℕ) → HaveChecks c read tries (Err (Rule name (rule_defect.Rejected b))) → (stop : Stop) → stop.file ≡ file → stop.refusal.place ≡ places.Rule name → Q stop
    rejected name b tries h =
        let ok = set_is l budgets file x over this.bytes read reads in
        let plain = plain_rules_are_accepted _ _ _ _ ok in
        so h.held name h.rules h.bodies (unsound_among c (moded-base c.sig.modes c.set.base c.set.more ok.moded) plain.moded h.held tries name b h.checked)

    refused : (e : AcceptError) (tries : ℕ) → HaveChecks c read tries (Err e) → (r : Refusing) → OnTypeError Q (acceptance_stop file r e)
    refused Memory tries h r = tt
    refused (Rule name d) tries h r = no_defect Q file r name d (λ b is. rejected name b tries (subst (λ (w : RuleRefusal). HaveChecks c read tries (Err (Rule name w))) is h))

    accepts_final : FinalTrying Q (Accepts l budgets file x read)
    accepts_final stop tries h = on_stop Q (acceptance_stop file _ h.0) stop (refused h.0 tries h.1 _) h.2

-- ---- all of them

module _ (l : BaseLanguage) (budgets : Budgets) (xs : List Extension) where
  abbrev Q : Stop → Type 0
  Q = StopsAtUnsound l budgets xs

  -- after these extensions come those
  extends_final : (before after : List Extension) (x : ExtendedData) (tries : ℕ) →
      xs ≡ before ++ after → ExtendsLanguage l budgets before (unextended l.content) (Ok x) tries →
      IsAcceptedOver l x → FinalTrying Q (ExtendsLanguage l budgets after x)
  extends_final before [] x tries parts begun over = λ stop made h error.
      absurd (ok_no_err x stop (sym h.0))
  extends_final before (this ∷ after) x tries parts begun over =
      and_then_final Q (ExtendsBy l budgets this x) (ExtendsLanguage l budgets after)
      (and_then_final Q (Untried (ReadsAfter l x this))
      (Accepts l budgets (extension_file this.header.name) x)
      (trying_final Q NoTries (ReadsAfter l x this) (reads_after_final Q l x this))
      (λ read count reads. accepts_final l budgets Q (extension_file this.header.name) x over this
      read reads.0
      (λ es rule rules bodies unsound stop file_is place_is. record {
        before = before;
        this = this;
        after = after;
        parts = parts;
        so_far = x;
        tries = tries;
        extends = begun;
        read = read;
        reads = reads.0;
        rules = es;
        rules_are = rules;
        bodies_are = bodies;
        rule = rule;
        unsound = unsound;
        file = file_is;
        place = place_is;
      })))
      (λ y count by.
      let more = one_more l budgets before this (unextended l.content) x y tries count begun by in
      extends_final (before ++ this ∷ []) after y more.0 (parts ∙ longer before this after) more.1
      (accepted_by l budgets this x y count over by))
    where
      longer : (before : List Extension) (this : Extension) (after : List Extension) →
          before ++ this ∷ after ≡ (before ++ this ∷ []) ++ after
      longer [] this after = refl
      longer (b ∷ before) this after = ap (λ (ys : List Extension). b ∷ ys)
          (longer before this after)

pub unsound_is_final : UnsoundIsFinal
unsound_is_final name bytes l stated budgets files stop tries =
    extends_final (base_in l) budgets files [] files (unextended l.language) 0 refl (refl, refl)
    (accepted_begin name bytes l stated) stop tries
