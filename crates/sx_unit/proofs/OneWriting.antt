-- Terms are written in one way, or refused in one, but for the readings that a refusal may show.
use Rattle.std.proofs.Common.{◌≡◌, ◌≢◌, ℕ, List, ◌⊎◌, inl, inr, refl, sym, ap, ◌∙◌}
use Rattle.sx_grammar.specs.Tables.{literals_of}
use Rattle.sx_rules.specs.Derivations.{Proof}
use Rattle.sx_words.specs.declared.print_defect.PrintedPart.{PrintedPart}
use Rattle.sx_words.specs.declared.print_defect.PrintedPart.TheVariants.{Body, Signature, Stated}
use Rattle.sx_words.specs.declared.print_defect.PrintDefect.{PrintDefect}
use Rattle.sx_typing.specs.declared.module_error.ModuleError.{ModuleError}
use Rattle.sx_typing.specs.declared.module_error.ModuleError.TheVariants.{Memory, Token, Read}
use Rattle.sx_typing.specs.declared.module_error.ModuleError.TheVariants.{TypeError, BudgetSpent}
use Rattle.sx_typing.specs.declared.module_error.ModuleError.TheVariants.{DepthSpent, TooDeep, TooBig}
use Rattle.sx_typing.specs.declared.module_error.ModuleError.TheVariants.{RewriteSpent, RewriteDeep}
use Rattle.sx_typing.specs.declared.module_error.ModuleError.TheVariants.{Print, Captured}
use Rattle.sx_unit.specs.Alike.{PartHasThree, ShowOthers}
use Rattle.sx_unit.specs.Captured.{names_standing_in}
use Rattle.sx_unit.specs.Modules.{ModuleData}
use Rattle.sx_unit.specs.PrintedParts.{PrintedData, part_grammar_of, part_sort_of, part_term}
use Rattle.sx_unit.specs.Texts.{derivation_text}
use Rattle.sx_unit.specs.Written.{UnitData, shown_of, file_size, IsBadPart, IsGoodPart, IsPartDue}
use Rattle.sx_unit.specs.Written.{HasCaptured, IsWritten, IsUnwritten}
use Rattle.sx_interface.proofs.FreeNames.{first_one, first_none}
use Rattle.sx_unit.proofs.OnePrint.{ShowPairs, defect_one, defect_none}

module _ (m : ModuleData) (t : PrintedData) where
  -- a printed part that is due cannot be written
  record IsUnprinted (part : PrintedPart) (e : ModuleError) : Type 0 where
    defect : PrintDefect
    is : e ≡ Print part defect
    due : IsPartDue m t part
    bad : IsBadPart m t part defect

  -- or a name of the stated signature is a literal
  record IsUnnamed (e : ModuleError) : Type 0 where
    word : List ℕ
    is : e ≡ Captured word
    body : IsGoodPart m t Body
    signature : IsGoodPart m t Signature
    captured : HasCaptured m t word

  abbrev Cases : ModuleError → Type 0
  Cases e = ((part : PrintedPart) × IsUnprinted part e) ⊎ IsUnnamed e

  cases : (e : ModuleError) → e ≢ Memory → IsUnwritten m t e → Cases e
  cases Memory n h = absurd (n refl)
  cases (Token line column d) n h = absurd h
  cases (Read line column u) n h = absurd h
  cases (TypeError line column text) n h = absurd h
  cases (BudgetSpent k) n h = absurd h
  cases DepthSpent n h = absurd h
  cases (TooDeep k) n h = absurd h
  cases (TooBig k) n h = absurd h
  cases (RewriteSpent k) n h = absurd h
  cases RewriteDeep n h = absurd h
  cases (Print part defect) n h =
      inl (part, record { defect = defect; is = refl; due = h.0; bad = h.1 })
  cases (Captured word) n h = inr
      (record { word = word; is = refl; body = h.0; signature = h.1; captured = h.2 })

  abbrev IsOne : ModuleError → ModuleError → Type 0
  IsOne e d = (e ≡ d) ⊎ ShowOthers m t e d

  defects_alike : (part : PrintedPart) (x y : PrintDefect) (e d : ModuleError) → IsPartDue m t part →
      e ≡ Print part x → d ≡ Print part y →
      (x ≡ y) ⊎ (ShowPairs x y × PartHasThree m t part) → IsOne e d
  defects_alike part x y e d due h k (inl same) = inl (h ∙ ap (Print part) same ∙ sym k)
  defects_alike part x y e d due h k (inr (pairs, three)) = inr (record {
    part = part;
    due = due;
    one = pairs.one;
    other = pairs.other;
    some = pairs.some;
    more = pairs.more;
    first = h ∙ ap (Print part) pairs.first;
    second = k ∙ ap (Print part) pairs.second;
    three = three;
  })

  same_part : (part : PrintedPart) (e d : ModuleError) → IsUnprinted part e → IsUnprinted part d →
      IsOne e d
  same_part part e d h k =
      defects_alike part h.defect k.defect e d h.due h.is k.is
      (defect_one (part_grammar_of m.source.dialect part) (part_sort_of m.source.dialect part)
      (file_size m t part) (shown_of m t part) (part_term t part) h.defect k.defect h.bad k.bad)

  -- a part that can be written is not refused
  part_none : (part : PrintedPart) (e : ModuleError) → IsUnprinted part e → IsGoodPart m t part → ⊥
  part_none part e h g =
      defect_none (part_grammar_of m.source.dialect part) (part_sort_of m.source.dialect part)
      (file_size m t part) (shown_of m t part) (part_term t part) h.defect g.short h.bad g.read

  parts_one : (part more : PrintedPart) (e d : ModuleError) → IsUnprinted part e →
      IsUnprinted more d → IsOne e d
  parts_one Body Body e d h k = same_part Body e d h k
  parts_one Body Signature e d h k = absurd (part_none Body e h k.due)
  parts_one Body Stated e d h k = absurd (part_none Body e h k.due.0)
  parts_one Signature Body e d h k = absurd (part_none Body d k h.due)
  parts_one Signature Signature e d h k = same_part Signature e d h k
  parts_one Signature Stated e d h k = absurd (part_none Signature e h k.due.1)
  parts_one Stated Body e d h k = absurd (part_none Body d k h.due.0)
  parts_one Stated Signature e d h k = absurd (part_none Signature d k h.due.1)
  parts_one Stated Stated e d h k = same_part Stated e d h k

  -- a name that is a literal comes before the stated signature, and after the others
  part_or_name : (part : PrintedPart) (e d : ModuleError) → IsUnprinted part e → IsUnnamed d → ⊥
  part_or_name Body e d h k = part_none Body e h k.body
  part_or_name Signature e d h k = part_none Signature e h k.signature
  part_or_name Stated e d h k = first_none (literals_of m.source.dialect.parts) (names_standing_in t.stated)
      k.word k.captured h.due.2

  names_one : (e d : ModuleError) → IsUnnamed e → IsUnnamed d → e ≡ d
  names_one e d h k =
      h.is ∙ ap Captured (first_one (literals_of m.source.dialect.parts) (names_standing_in t.stated) h.word
      k.word h.captured k.captured) ∙ sym k.is

  cases_one : (e d : ModuleError) → Cases e → Cases d → IsOne e d
  cases_one e d (inl h) (inl k) = parts_one h.0 k.0 e d h.1 k.1
  cases_one e d (inl h) (inr k) = absurd (part_or_name h.0 e d h.1 k)
  cases_one e d (inr h) (inl k) = absurd (part_or_name k.0 d e k.1 h)
  cases_one e d (inr h) (inr k) = inl (names_one e d h k)

  pub unwritten_one : (e d : ModuleError) → e ≢ Memory → d ≢ Memory → IsUnwritten m t e →
      IsUnwritten m t d → IsOne e d
  unwritten_one e d n k h i = cases_one e d (cases e n h) (cases d k i)

  -- what is written is not refused
  written_part : (part : PrintedPart) (q : Proof) (u : UnitData) → IsWritten m t q u →
      IsGoodPart m t part
  written_part Body q u w = w.body_good
  written_part Signature q u w = w.signature_good
  written_part Stated q u w = w.stated_good

  cases_none : (e : ModuleError) (q : Proof) (u : UnitData) → Cases e → IsWritten m t q u → ⊥
  cases_none e q u (inl h) w = part_none h.0 e h.1 (written_part h.0 q u w)
  cases_none e q u (inr h) w = first_none (literals_of m.source.dialect.parts) (names_standing_in t.stated)
      h.word h.captured w.names_free

  pub written_none : (e : ModuleError) (q : Proof) (u : UnitData) → e ≢ Memory → IsUnwritten m t e →
      IsWritten m t q u → ⊥
  written_none e q u n h w = cases_none e q u (cases e n h) w

  -- what is written of one derivation is one unit
  pub written_one : (q : Proof) (u v : UnitData) → IsWritten m t q u → IsWritten m t q v →
      u.source_tokens ≡ v.source_tokens → u ≡ v
  written_one q u v h k same = λ i. record {
    base = (h.base ∙ sym k.base) i;
    interface = (h.interface ∙ sym k.interface) i;
    derivation = (h.derivation ∙ ap (derivation_text m.source.dialect.language.rules) lists
        ∙ sym k.derivation) i;
    list = lists i;
    nodes = (h.nodes ∙ sym k.nodes) i;
    source_tokens = same i;
    base_tokens = (h.base_tokens ∙ sym k.base_tokens) i;
  }
    where
      lists : u.list ≡ v.list
      lists = h.list ∙ sym k.list
