-- The extension that is checked comes last.
use Rattle.std.proofs.Common.{◌≡◌, ℕ, ◌+◌, List, [], ◌∷◌, ◌++◌, length, map, refl, sym, ap, ◌∙◌, subst}
use Rattle.std.specs.Prelude.{Ok, Some}
use Rattle.std.specs.List.{AllByRecursion}
use Rattle.sx_rules.specs.Views.{subjects_in}
use Rattle.sx_rewrite.specs.Extensions.{with_table}
use Rattle.sx_rewrite.specs.ExtensionView.{ext_rule}
use Rattle.sx_rewrite.specs.Sound.{AreSoundBy}
use Rattle.sx_outline.specs.Headers.{IsHeaderAnswer}
use Rattle.sx_extcheck.specs.declared.budgets.Budgets.{Budgets}
use Rattle.sx_outside.specs.Files.{Files}
use Rattle.sx_steps.specs.declared.stop.Stop.{Stop}
use Rattle.sx_steps.specs.Held.{Held}
use Rattle.sx_term.specs.Limits.{most_bytes}
use Rattle.sx_steps.specs.Steps.{Untried}
use Rattle.sx_steps.proofs.Ones.{ok_same}
use Rattle.sx_steps.proofs.StepsOn.{went, went_on}
use Rattle.sx_uses.specs.ExtensionFile.{Extension, extension_file}
use Rattle.sx_uses.specs.Laws.{use_names}
use Rattle.sx_uses.specs.ReadExtension.{StatesExtension, ReadsFile, IsFor, ReadsExtension}
use Rattle.sx_uses.specs.ReadUses.{ReadsUses}
use Rattle.sx_uses.proofs.Coming.{come_first}
use Rattle.sx_uses.proofs.Lasting.{come_last}
use Rattle.sx_accepting.specs.ExtendedLanguages.{BaseLanguage, ExtendedData, ground_of, unextended}
use Rattle.sx_accepting.specs.Extending.{ReadData, IsExtensionStated, ReadsAfter, Accepts}
use Rattle.sx_accepting.specs.Extending.{ExtendsBy, ExtendsLanguage}
use Rattle.sx_accepting.specs.Laws.{IsAcceptedOver}
use Rattle.sx_accepting.proofs.AcceptedExtended.{stored_soundly, checks_of, accepted_from}
use Rattle.sx_check.specs.CheckedExtension.{LastAreSound, ComesLast}

-- ---- the last of those that are reached

-- the extension with the last name
record HasLast (name : List ℕ) (xs : List Extension) : Type 0 where
  before : List Extension
  this : Extension
  parts : xs ≡ before ++ this ∷ []
  named : this.header.name ≡ name

head_same : (a b : List ℕ) (xs ys : List (List ℕ)) → a ∷ xs ≡ b ∷ ys → a ≡ b
head_same a b xs ys e = cc

rest_same : (a b : List ℕ) (xs ys : List (List ℕ)) → a ∷ xs ≡ b ∷ ys → xs ≡ ys
rest_same a b xs ys e = cc

no_names : (names : List (List ℕ)) (name : List ℕ) → [] ≡ names ++ name ∷ [] → ⊥
no_names [] name e = absurd cc
no_names (n ∷ names) name e = absurd cc

no_more : (name : List ℕ) (names : List (List ℕ)) → name ∷ names ≡ [] → ⊥
no_more name names e = absurd cc

last_named : (xs : List Extension) (names : List (List ℕ)) (name : List ℕ) → use_names xs ≡ names ++ name ∷ [] → HasLast name xs
last_named [] names name e = absurd (no_names names name e)
last_named (x ∷ []) [] name e = record { before = []; this = x; parts = refl; named = head_same x.header.name name [] [] e }
last_named (x ∷ y ∷ xs) [] name e = absurd (no_more y.header.name (use_names xs) (rest_same x.header.name name (use_names (y ∷ xs)) [] e))
last_named (x ∷ xs) (n ∷ names) name e =
    let last = last_named xs names name (rest_same x.header.name n (use_names xs) (names ++ name ∷ []) e) in
    record { before = x ∷ last.before; this = last.this; parts = ap (λ (ys : List Extension). x ∷ ys) last.parts; named = last.named }

of_last : (P : Extension → Type 0) (before : List Extension) (this : Extension) → AllByRecursion P (before ++ this ∷ []) → P this
of_last P [] this h = h.0
of_last P (x ∷ before) this h = of_last P before this h.1

-- it is what the file with this name holds, and is written for the language
pub record EndsWith (language name : List ℕ) (files : Files) (xs : List Extension) : Type 0 where
  pub before : List Extension
  pub own : Extension
  pub parts : xs ≡ before ++ own ∷ []
  pub held : files (extension_file name) ≡ Some own.bytes
  pub headed : IsHeaderAnswer name own.bytes (Ok own.header)
  pub written_for : own.header.language ≡ language

module _ (name : List ℕ) (files : Files) where
  file_held : (x : Extension) → ReadsFile files name (Ok x) → (files (extension_file name) ≡ Some x.bytes) × IsHeaderAnswer name x.bytes (Ok x.header)
  file_held x reads =
      let at = went (Held most_bytes (extension_file name) files) (StatesExtension name) x reads in
      let same = sym at.goes.same in
      (at.begins.0 ∙ ap (λ (bytes : List ℕ). Some bytes) same, subst (λ (bytes : List ℕ). IsHeaderAnswer name bytes (Ok x.header)) same at.goes.states)

  ends_with : (language : List ℕ) (xs before : List Extension) (own : Extension) → xs ≡ before ++ own ∷ [] → ReadsExtension language files name (Ok own) → EndsWith language name files xs
  ends_with language xs before own parts reads =
      let at = went (ReadsFile files name) (IsFor language name) own reads in
      let same = at.goes.1 in
      let file = file_held own (subst (λ (x : Extension). ReadsFile files name (Ok x)) (sym same) at.begins) in
      record { before = before; own = own; parts = parts; held = file.0; headed = file.1; written_for = ap (λ (x : Extension). x.header.language) same ∙ at.goes.0 }

pub own_is_last : (file language name : List ℕ) (files : Files) (xs : List Extension) → ReadsUses file language (name ∷ []) files (Ok xs) → EndsWith language name files xs
own_is_last file language name files xs reached =
    let names = come_last file language name files xs reached in
    let last = last_named xs names.0 name names.1 in
    let all = (come_first file language (name ∷ []) files xs reached).1 in
    let alone = of_last (λ (x : Extension). ReadsExtension language files x.header.name (Ok x)) last.before last.this
    (subst (AllByRecursion (λ (x : Extension). ReadsExtension language files x.header.name (Ok x))) last.parts all) in
    ends_with name files language xs last.before last.this last.parts (subst (λ (n : List ℕ). ReadsExtension language files n (Ok last.this)) last.named alone)

-- ---- what is accepted before it, and then with it

module _ (l : BaseLanguage) (budgets : Budgets) where
  -- the rules of an extension that is read and accepted are sound
  last_are_sound : (own : Extension) (so_far x : ExtendedData) (read : ReadData) (tries : ℕ) → IsAcceptedOver l so_far → IsExtensionStated (ground_of l so_far) own.bytes read →
      Accepts l budgets (extension_file own.header.name) so_far read (Ok x) tries → LastAreSound so_far read x
  last_are_sound own so_far x read tries over stated accepts =
      let stored = accepts.0 in
      let rules = stated.whole.extension.rules.items in
      let checks = checks_of l budgets so_far own.bytes read tries stated stored accepts.1 in
      record {
        rules = rules;
        rules_are = ap (λ (d : ReadData). d.rules) (sym stated.is);
        bodies_are = ap (λ (d : ReadData). d.bodies) (sym stated.is);
        stored = stored;
        stored_are = ap (λ (y : ExtendedData). y.set.kept.more) accepts.2;
        sound = subst (λ (d : ReadData). AreSoundBy (subjects_in so_far.set.forms) (length so_far.set.base_shapes) (with_table so_far.set.kept d.table) (map ext_rule rules) stored)
            (sym stated.is) (stored_soundly l so_far over own.bytes read stated budgets stored tries checks);
      }

  record Apart (before : List Extension) (own : Extension) (x y : ExtendedData) : Type 0 where
    middle : ExtendedData
    tries : ℕ
    more : ℕ
    extends : ExtendsLanguage l budgets before x (Ok middle) tries
    by : ExtendsBy l budgets own middle (Ok y) more

  apart_at : (before : List Extension) (own : Extension) (x y : ExtendedData) (tries : ℕ) → ExtendsLanguage l budgets (before ++ own ∷ []) x (Ok y) tries → Apart before own x y
  apart_at [] own x y tries h =
      let at = went_on (ExtendsBy l budgets own x) (ExtendsLanguage l budgets []) y tries h in
      let same : y ≡ at.given = ok_same {B = Stop} y at.given at.goes.0 in
      record { middle = x; tries = 0; more = at.before; extends = (refl, refl); by = subst (λ (z : ExtendedData). ExtendsBy l budgets own x (Ok z) at.before) (sym same) at.begins }
  apart_at (file ∷ before) own x y tries h =
      let at = went_on (ExtendsBy l budgets file x) (ExtendsLanguage l budgets (before ++ own ∷ [])) y tries h in
      let rest = apart_at before own at.given y at.after at.goes in
      record {
        middle = rest.middle;
        tries = at.before + rest.tries;
        more = rest.more;
        extends = record { given = Ok at.given; before = at.before; after = rest.tries; begins = at.begins; goes = rest.extends; sum = refl };
        by = rest.by;
      }

  pub comes_last : IsAcceptedOver l (unextended l.content) → (own : Extension) (before xs : List Extension) (x : ExtendedData) (tries : ℕ) → xs ≡ before ++ own ∷ [] →
      ExtendsLanguage l budgets xs (unextended l.content) (Ok x) tries → ComesLast l budgets own xs x
  comes_last begun own before xs x tries parts extends =
      let at = apart_at before own (unextended l.content) x tries (subst (λ (ys : List Extension). ExtendsLanguage l budgets ys (unextended l.content) (Ok x) tries) parts extends) in
      let read = went_on (Untried (ReadsAfter l at.middle own)) (Accepts l budgets (extension_file own.header.name) at.middle) x at.more at.by in
      let made = read.goes.2 in
      let over = accepted_from l budgets before (unextended l.content) at.middle at.tries begun at.extends in
      record {
        before = before;
        parts = parts;
        so_far = at.middle;
        tries = at.tries;
        extends = at.extends;
        read = read.given;
        reads = read.begins.0;
        rules = ap (λ (y : ExtendedData). y.set.rules) made;
        count = ap (λ (y : ExtendedData). y.last) made;
        sound = last_are_sound own at.middle x read.given read.after over read.begins.0 read.goes;
      }
