-- What is wrong with plain tables and with bodies has one name.
use Rattle.std.proofs.Common.{◌≡◌, ◌≢◌, ℕ, zero, suc, List, [], ◌∷◌, Option, Some, None, Ok, Err}
use Rattle.std.proofs.Common.{refl, ap, ◌∙◌, sym, subst}
use Rattle.std.specs.Prelude.{slice_get, unwrap_or, length}
use Rattle.sx_term.specs.declared.sort.Sort.{Sort}
use Rattle.sx_term.specs.Sorts.{Shape}
use Rattle.sx_term.specs.Tree.{Tree}
use Rattle.sx_grammar.specs.Grammar.{Text}
use Rattle.sx_grammar.specs.Parts.{Parts, labels}
use Rattle.sx_grammar.specs.Told.{shapes_of}
use Rattle.sx_plain.specs.declared.plain_error.PlainError.{PlainError}
use Rattle.sx_plain.specs.declared.plain_error.PlainError.TheVariants as plain
use Rattle.sx_plain.specs.declared.table.PlainTable.{PlainTable}
use Rattle.sx_rules.specs.Views.{FormData, NamedRule}
use Rattle.sx_outline.specs.Stages.{Numbered, PlainData, RuleData}
use Rattle.sx_extension.specs.declared.plain_defect.PlainDefect.{PlainDefect}
use Rattle.sx_extension.specs.declared.plain_defect.PlainDefect.TheVariants.{Twice, UsesLater}
use Rattle.sx_extension.specs.declared.plain_defect.PlainDefect.TheVariants.{Drops, TooDeep}
use Rattle.sx_extension.specs.declared.plain_defect.PlainDefect.TheVariants.{TooBig}
use Rattle.sx_extension.specs.declared.body_defect.BodyDefect.{BodyDefect}
use Rattle.sx_extension.specs.declared.body_defect.BodyDefect.TheVariants as defect
use Rattle.sx_extension.specs.declared.table_error.TableError.{TableError}
use Rattle.sx_extension.specs.declared.table_error.TableError.TheVariants as table
use Rattle.sx_extension.specs.declared.extension_error.ExtensionError.{ExtensionError}
use Rattle.sx_extension.specs.declared.extension_error.ExtensionError.TheVariants.{Memory}
use Rattle.sx_extension.specs.declared.extension_error.ExtensionError.TheVariants.{Notation, Plain}
use Rattle.sx_extension.specs.declared.extension_error.ExtensionError.TheVariants.{NoPlain, NoBody}
use Rattle.sx_extension.specs.declared.extension_error.ExtensionError.TheVariants.{BodySort}
use Rattle.sx_extension.specs.declared.extension_error.ExtensionError.TheVariants.{BodyExtended}
use Rattle.sx_extension.specs.Bodies.{IsBodied, BodyHasDefect, subject_of, AreBodied, IsFirstDefect}
use Rattle.sx_extension.specs.BodyRefusals.{IsBodyRefusal, HaveBadBody}
use Rattle.sx_extension.specs.Defects.{IsDefect}
use Rattle.sx_extension.specs.Grounds.{Ground}
use Rattle.sx_extension.specs.PlainBodies.{BodyData}
use Rattle.sx_extension.specs.PlainTables.{IsTableMade}
use Rattle.sx_extension.specs.Stages.{IsNoTable}
use Rattle.sx_extension.specs.TableRefusals.{IsPlainRefusal, IsNoPlain, IsTableRefusal}
use Rattle.sx_extension.proofs.OneTable.{no_table_one, table_or_not}

-- ---- plain tables

text_in : (o : Option Text) (x : Text) → o ≡ Some x → x ≡ unwrap_or o []
text_in o x e = ap (λ (y : Option Text). unwrap_or y []) (sym e)

module _ (p : Parts) (l : PlainData) where
  -- the defect that is told of a plain body
  abbrev named_defect : PlainError → PlainDefect
  named_defect plain.Memory = Twice
  named_defect (plain.Twice label) = Twice
  named_defect (plain.UsesLater label) = UsesLater (unwrap_or (slice_get (labels p) label) [])
  named_defect (plain.Drops part) = Drops (unwrap_or (slice_get l.names part) [])
  named_defect (plain.TooDeep depth) = TooDeep depth
  named_defect (plain.TooBig nodes) = TooBig nodes

  defect_named : (e : PlainError) (d : PlainDefect) → IsDefect p l e d → d ≡ named_defect e
  defect_named plain.Memory Twice h = absurd h
  defect_named plain.Memory (UsesLater x) h = absurd h
  defect_named plain.Memory (Drops x) h = absurd h
  defect_named plain.Memory (TooDeep x) h = absurd h
  defect_named plain.Memory (TooBig x) h = absurd h
  defect_named (plain.Twice n) Twice h = refl
  defect_named (plain.Twice n) (UsesLater x) h = absurd h
  defect_named (plain.Twice n) (Drops x) h = absurd h
  defect_named (plain.Twice n) (TooDeep x) h = absurd h
  defect_named (plain.Twice n) (TooBig x) h = absurd h
  defect_named (plain.UsesLater n) Twice h = absurd h
  defect_named (plain.UsesLater n) (UsesLater x) h = ap UsesLater
      (text_in (slice_get (labels p) n) x h)
  defect_named (plain.UsesLater n) (Drops x) h = absurd h
  defect_named (plain.UsesLater n) (TooDeep x) h = absurd h
  defect_named (plain.UsesLater n) (TooBig x) h = absurd h
  defect_named (plain.Drops n) Twice h = absurd h
  defect_named (plain.Drops n) (UsesLater x) h = absurd h
  defect_named (plain.Drops n) (Drops x) h = ap Drops (text_in (slice_get l.names n) x h)
  defect_named (plain.Drops n) (TooDeep x) h = absurd h
  defect_named (plain.Drops n) (TooBig x) h = absurd h
  defect_named (plain.TooDeep n) Twice h = absurd h
  defect_named (plain.TooDeep n) (UsesLater x) h = absurd h
  defect_named (plain.TooDeep n) (Drops x) h = absurd h
  defect_named (plain.TooDeep n) (TooDeep x) h = ap TooDeep h
  defect_named (plain.TooDeep n) (TooBig x) h = absurd h
  defect_named (plain.TooBig n) Twice h = absurd h
  defect_named (plain.TooBig n) (UsesLater x) h = absurd h
  defect_named (plain.TooBig n) (Drops x) h = absurd h
  defect_named (plain.TooBig n) (TooDeep x) h = absurd h
  defect_named (plain.TooBig n) (TooBig x) h = ap TooBig h

  plain_named : (e : PlainError) (x : ExtensionError) → x ≢ Memory → IsPlainRefusal p l e x →
      x ≡ Plain l.label (named_defect e)
  plain_named e Memory n h = absurd (n refl)
  plain_named e (Notation y) n h = absurd h
  plain_named e (Plain label d) n h = λ i. Plain (h.0 i) (defect_named e d h.1 i)
  plain_named e (NoPlain label) n h = absurd h
  plain_named e (NoBody rule) n h = absurd h
  plain_named e (BodySort rule) n h = absurd h
  plain_named e (BodyExtended rule) n h = absurd h

no_plain_named : (p : Parts) (number : ℕ) (x : ExtensionError) → x ≢ Memory →
    IsNoPlain p number x → x ≡ NoPlain (unwrap_or (slice_get (labels p) number) [])
no_plain_named p number Memory n h = absurd (n refl)
no_plain_named p number (Notation y) n h = absurd h
no_plain_named p number (Plain label d) n h = absurd h
no_plain_named p number (NoPlain label) n h = ap NoPlain
    (text_in (slice_get (labels p) number) label h)
no_plain_named p number (NoBody rule) n h = absurd h
no_plain_named p number (BodySort rule) n h = absurd h
no_plain_named p number (BodyExtended rule) n h = absurd h

same_pair : (x y : PlainData) → Some x ≡ Some y → x ≡ y
same_pair x y e = cc

table_named : (p : Parts) (ls : List PlainData) (t : TableError) (e d : ExtensionError) →
    e ≢ Memory → d ≢ Memory → IsTableRefusal p ls t e → IsTableRefusal p ls t d → e ≡ d
table_named p ls table.Memory e d n m h k = h ∙ sym k
table_named p ls (table.Plain number x) e d n m h k =
    let line = same_pair h.0 k.0 (sym h.1 ∙ k.1) in
    plain_named p h.0 x e n h.2 ∙ ap (λ (l : PlainData). Plain l.label (named_defect p l x)) line ∙
    sym (plain_named p k.0 x d m k.2)
table_named p ls (table.NoPlain number) e d n m h k = no_plain_named p number e n h ∙ sym
    (no_plain_named p number d m k)

module _ (g : Ground) (p : Parts) (ls : List PlainData) (bs : List BodyData) where
  -- why there is no table, memory aside
  record IsTold (e : ExtensionError) : Type 0 where
    why : TableError
    reason : why ≢ table.Memory
    made : IsTableMade g.base (shapes_of p) (length g.shapes) g.table bs (Err why)
    refused : IsTableRefusal p ls why e

  told_by : (e : ExtensionError) → e ≢ Memory →
      (x : TableError) × IsTableMade g.base (shapes_of p) (length g.shapes) g.table bs (Err x) ×
      IsTableRefusal p ls x e → IsTold e
  told_by e n h =
      record {
        why = h.0;
        reason = λ q. n (subst (λ (x : TableError). IsTableRefusal p ls x e) q
            h.2);
        made = h.1;
        refused = h.2;
      }

  told : (e : ExtensionError) → e ≢ Memory → IsNoTable g p ls bs e → IsTold e
  told Memory n h = absurd (n refl)
  told (Notation y) n h = told_by (Notation y) n h
  told (Plain label d) n h = told_by (Plain label d) n h
  told (NoPlain label) n h = told_by (NoPlain label) n h
  told (NoBody rule) n h = told_by (NoBody rule) n h
  told (BodySort rule) n h = told_by (BodySort rule) n h
  told (BodyExtended rule) n h = told_by (BodyExtended rule) n h

  pub table_refusal_one : (e d : ExtensionError) → e ≢ Memory → d ≢ Memory →
      IsNoTable g p ls bs e → IsNoTable g p ls bs d → e ≡ d
  table_refusal_one e d n m h k =
      let a = told e n h in
      let b = told d m k in
      let same = no_table_one g.base (shapes_of p) (length g.shapes) g.table bs a.why b.why
      a.reason b.reason a.made b.made in
      table_named p ls b.why e d n m (subst (λ (x : TableError). IsTableRefusal p ls x e) same
      a.refused) b.refused

  pub table_or_refusal : (t : PlainTable) (e : ExtensionError) → e ≢ Memory →
      IsTableMade g.base (shapes_of p) (length g.shapes) g.table bs (Ok t) →
      IsNoTable g p ls bs e → ⊥
  table_or_refusal t e n h k = let a = told e n k in table_or_not g.base (shapes_of p)
      (length g.shapes) g.table bs t a.why a.reason h a.made

-- ---- bodies

-- what is wrong, where anything is
abbrev wrong : Option Sort → Option Numbered → BodyDefect
wrong None line = defect.BodySort
wrong (Some sort) None = defect.NoBody
wrong (Some sort) (Some line) = defect.BodyExtended

module _ (shapes : List Shape) (first : ℕ) where
  wrong_is : (subject : Option Sort) (line : Option Numbered) (body : Option Tree) (d : BodyDefect)
      → BodyHasDefect shapes first subject line body d → d ≡ wrong subject line
  wrong_is None None body defect.NoBody h = absurd h
  wrong_is None None body defect.BodySort h = absurd h
  wrong_is None None body defect.BodyExtended h = absurd h
  wrong_is None (Some line) body defect.NoBody h = absurd h
  wrong_is None (Some line) body defect.BodySort h = refl
  wrong_is None (Some line) body defect.BodyExtended h = absurd h
  wrong_is (Some sort) None body defect.NoBody h = refl
  wrong_is (Some sort) None body defect.BodySort h = absurd h
  wrong_is (Some sort) None body defect.BodyExtended h = absurd h
  wrong_is (Some sort) (Some line) None defect.NoBody h = let clash : Some line ≡ None = h in cc
  wrong_is (Some sort) (Some line) (Some t) defect.NoBody h = let clash : Some line ≡ None = h in
      cc
  wrong_is (Some sort) (Some line) None defect.BodySort h = absurd h
  wrong_is (Some sort) (Some line) (Some t) defect.BodySort h = absurd h
  wrong_is (Some sort) (Some line) None defect.BodyExtended h = absurd h
  wrong_is (Some sort) (Some line) (Some t) defect.BodyExtended h = refl

  bodied_or_wrong : (subject : Option Sort) (line : Option Numbered) (body : Option Tree)
      (d : BodyDefect) → IsBodied shapes first subject line body →
      BodyHasDefect shapes first subject line body d → ⊥
  bodied_or_wrong None None body defect.NoBody h k = k
  bodied_or_wrong None None body defect.BodySort h k = k
  bodied_or_wrong None None body defect.BodyExtended h k = k
  bodied_or_wrong None (Some line) body d h k = h
  bodied_or_wrong (Some sort) None body d h k = h
  bodied_or_wrong (Some sort) (Some line) None d h k = h
  bodied_or_wrong (Some sort) (Some line) (Some t) defect.NoBody h k = let clash : Some line ≡ None
      = k in cc
  bodied_or_wrong (Some sort) (Some line) (Some t) defect.BodySort h k = k
  bodied_or_wrong (Some sort) (Some line) (Some t) defect.BodyExtended h k = h k

  module _ (forms : List FormData) where
    first_defect_one : (ls : List RuleData) (qs : List NamedRule) (bs : List (Option Tree))
        (n m : ℕ) (d e : BodyDefect) → IsFirstDefect forms shapes first ls qs bs n d →
        IsFirstDefect forms shapes first ls qs bs m e → (n ≡ m) × (d ≡ e)
    first_defect_one [] qs bs n m d e h k = absurd h
    first_defect_one (l ∷ ls) [] bs n m d e h k = absurd h
    first_defect_one (l ∷ ls) (q ∷ qs) [] n m d e h k = absurd h
    first_defect_one (l ∷ ls) (q ∷ qs) (b ∷ bs) zero zero d e h k = (
      refl,
      wrong_is (subject_of forms q) l.body b d h ∙ sym
          (wrong_is (subject_of forms q) l.body b e k),
    )
    first_defect_one (l ∷ ls) (q ∷ qs) (b ∷ bs) zero (suc m) d e h k = absurd
        (bodied_or_wrong (subject_of forms q) l.body b d k.0 h)
    first_defect_one (l ∷ ls) (q ∷ qs) (b ∷ bs) (suc n) zero d e h k = absurd
        (bodied_or_wrong (subject_of forms q) l.body b e h.0 k)
    first_defect_one (l ∷ ls) (q ∷ qs) (b ∷ bs) (suc n) (suc m) d e h k =
        let rest = first_defect_one ls qs bs n m d e h.1 k.1 in (ap suc rest.0, rest.1)

    bodied_or_first : (ls : List RuleData) (qs : List NamedRule) (bs : List (Option Tree)) (n : ℕ)
        (d : BodyDefect) → AreBodied forms shapes first ls qs bs →
        IsFirstDefect forms shapes first ls qs bs n d → ⊥
    bodied_or_first [] qs bs n d h k = k
    bodied_or_first (l ∷ ls) [] bs n d h k = k
    bodied_or_first (l ∷ ls) (q ∷ qs) [] n d h k = k
    bodied_or_first (l ∷ ls) (q ∷ qs) (b ∷ bs) zero d h k = bodied_or_wrong (subject_of forms q)
        l.body b d h.0 k
    bodied_or_first (l ∷ ls) (q ∷ qs) (b ∷ bs) (suc n) d h k = bodied_or_first ls qs bs n d h.1 k.1

-- the refusal of the rule with this name
abbrev told_body : Text → BodyDefect → ExtensionError
told_body rule defect.NoBody = NoBody rule
told_body rule defect.BodySort = BodySort rule
told_body rule defect.BodyExtended = BodyExtended rule

told_is : (rule : Text) (d : BodyDefect) (e : ExtensionError) → e ≢ Memory →
    IsBodyRefusal rule d e → e ≡ told_body rule d
told_is rule d Memory n h = absurd (n refl)
told_is rule defect.NoBody (NoBody name) n h = ap NoBody h
told_is rule defect.NoBody (Notation y) n h = absurd h
told_is rule defect.NoBody (Plain label y) n h = absurd h
told_is rule defect.NoBody (NoPlain label) n h = absurd h
told_is rule defect.NoBody (BodySort name) n h = absurd h
told_is rule defect.NoBody (BodyExtended name) n h = absurd h
told_is rule defect.BodySort (BodySort name) n h = ap BodySort h
told_is rule defect.BodySort (Notation y) n h = absurd h
told_is rule defect.BodySort (Plain label y) n h = absurd h
told_is rule defect.BodySort (NoPlain label) n h = absurd h
told_is rule defect.BodySort (NoBody name) n h = absurd h
told_is rule defect.BodySort (BodyExtended name) n h = absurd h
told_is rule defect.BodyExtended (BodyExtended name) n h = ap BodyExtended h
told_is rule defect.BodyExtended (Notation y) n h = absurd h
told_is rule defect.BodyExtended (Plain label y) n h = absurd h
told_is rule defect.BodyExtended (NoPlain label) n h = absurd h
told_is rule defect.BodyExtended (NoBody name) n h = absurd h
told_is rule defect.BodyExtended (BodySort name) n h = absurd h

same_rule : (x y : RuleData) → Some x ≡ Some y → x ≡ y
same_rule x y e = cc

module _ (forms : List FormData) (shapes : List Shape) (first : ℕ) (ls : List RuleData)
    (qs : List NamedRule) (bs : List (Option Tree)) where
  pub bad_body_one : (e d : ExtensionError) → e ≢ Memory → d ≢ Memory →
      HaveBadBody forms shapes first ls qs bs e → HaveBadBody forms shapes first ls qs bs d → e ≡ d
  bad_body_one e d n m h k =
      let same = first_defect_one shapes first forms ls qs bs h.number k.number h.defect k.defect
      h.is_first k.is_first in
      let lines = same_rule h.lines k.lines (sym h.there ∙ ap (slice_get ls) same.0 ∙ k.there) in
      told_is h.lines.name h.defect e n h.refused ∙ (λ i. told_body ((lines i).name) (same.1 i)) ∙
      sym (told_is k.lines.name k.defect d m k.refused)

  pub bodied_or_bad : (e : ExtensionError) → AreBodied forms shapes first ls qs bs →
      HaveBadBody forms shapes first ls qs bs e → ⊥
  bodied_or_bad e h k = bodied_or_first shapes first forms ls qs bs k.number k.defect h k.is_first
