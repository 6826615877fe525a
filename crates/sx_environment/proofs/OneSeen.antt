-- An import is seen by one term, or refused for one reason, but for the readings that a refusal may
-- show of a text with more than two.
use Rattle.std.proofs.Common.{◌≡◌, ◌≢◌, ℕ, ◌+◌, ◌≤◌, List, [], ◌⊎◌, inl, inr, length, refl, sym}
use Rattle.std.proofs.Common.{ap, ◌∙◌, subst, arith}
use Rattle.std.specs.Prelude.{Some, slice_get}
use Rattle.sx_term.specs.Tree.{Tree, depth_of}
use Rattle.sx_token.specs.declared.token.Token.{Token}
use Rattle.sx_token.specs.declared.token_error.TokenError.{TokenError}
use Rattle.sx_plain.specs.Plain.{image}
use Rattle.sx_notation.specs.declared.unread.Unread.{Unread}
use Rattle.sx_notation.specs.OneReason.{ShowTwo}
use Rattle.sx_notation.specs.WhyUnread.{IsUnreadAs}
use Rattle.sx_notation.proofs.OneReasons.{unread_or_read}
use Rattle.sx_language.proofs.Stepwise as steps
use Rattle.sx_language.proofs.Stepwise.{Step, step_alike, step_none}
use Rattle.sx_interface.specs.declared.marks.Digest.{Digest}
use Rattle.sx_interface.specs.Interfaces.{InterfaceParts}
use Rattle.sx_typing.specs.Alike.{HasThree}
use Rattle.sx_typing.specs.Refused.{defect_place, unread_place}
use Rattle.sx_typing.proofs.OneAnswer.{body_one, defect_one, unread_one}
use Rattle.sx_typing.proofs.OneBody.{one_cut, defect_or_cut}
use Rattle.sx_environment.specs.declared.import_error.ImportError.{ImportError}
use Rattle.sx_environment.specs.declared.import_error.ImportError.TheVariants.{Memory}
use Rattle.sx_environment.specs.declared.import_error.ImportError.TheVariants.{LanguageDiffers}
use Rattle.sx_environment.specs.declared.import_error.ImportError.TheVariants.{Differs, Read}
use Rattle.sx_environment.specs.declared.import_error.ImportError.TheVariants.{TooDeep}
use Rattle.sx_environment.specs.declared.import_error.ImportError.TheVariants.{StatedDiffers}
use Rattle.sx_environment.specs.declared.import_error.ImportError.TheVariants.{Token as BadTokens}
use Rattle.sx_environment.specs.declared.row.Row.{Row}
use Rattle.sx_environment.specs.declared.row.Row.TheVariants.{Signature, Stated}
use Rattle.sx_environment.specs.Alike.{AreImportsAlike}
use Rattle.sx_environment.specs.Environments.{with_import}
use Rattle.sx_environment.specs.ImportErrors.{IsRowUncut, IsUnread, StatesOther, IsImportTooDeep}
use Rattle.sx_environment.specs.ImportErrors.{IsBadImport}
use Rattle.sx_environment.specs.Seen.{import_row_text, row_parts, row_sort, IsImportRowRead}
use Rattle.sx_environment.specs.Seen.{SeesStated, Sees, IsGoodImport}
use Rattle.sx_environment.specs.SeenFrom.{SeenFrom}

module _ (s : SeenFrom) where
  -- ---- what is seen

  pub read_one : (it : InterfaceParts) (row : Row) (t u : Tree) → IsImportRowRead s it row t →
      IsImportRowRead s it row u → t ≡ u
  read_one it row t u h k =
      (body_one (row_parts s row) (row_sort s) (import_row_text it row) h.0 k.0 h.1 k.1 t u h.2 k.2).term_same

  seen_one : (it : InterfaceParts) (one other t u : Tree) → one ≡ other → Sees s it one t →
      Sees s it other u → t ≡ u
  seen_one it one other t u same (inl h) (inl k) = read_one it Stated t u h.1 k.1
  seen_one it one other t u same (inl h) (inr k) = absurd (k.0 h.0)
  seen_one it one other t u same (inr h) (inl k) = absurd (h.0 k.0)
  seen_one it one other t u same (inr h) (inr k) = h.1 ∙ same ∙ sym k.1

  pub good_one : (it : InterfaceParts) (t u : Tree) → IsGoodImport s it t → IsGoodImport s it u →
      t ≡ u
  good_one it t u h k =
      seen_one it h.signature k.signature t u
      (read_one it Signature h.signature k.signature h.read k.read) h.sees k.sees

  module _ (number : ℕ) (before : Tree) (it : InterfaceParts) where
    -- ---- rows

    pub record Uncut (row : Row) (e : ImportError) : Type 0 where
      line : ℕ
      column : ℕ
      defect : TokenError
      is : e ≡ BadTokens number line column defect
      uncut : IsRowUncut s it row line column defect

    pub record Unreads (row : Row) (e : ImportError) : Type 0 where
      line : ℕ
      column : ℕ
      why : Unread
      is : e ≡ Read number line column why
      unread : IsUnread s it row line column why

    abbrev BadRow : Row → ImportError → Type 0
    BadRow row e = Uncut row e ⊎ Unreads row e

    uncut_unread : (row : Row) (e d : ImportError) → Uncut row e → Unreads row d → ⊥
    uncut_unread row e d h k =
        defect_or_cut (row_parts s row) (import_row_text it row) h.defect k.unread.0.0 h.uncut.0 k.unread.0.1

    -- a row that is read is not refused
    row_none : (row : Row) (t : Tree) → IsImportRowRead s it row t → (e : ImportError) → BadRow row e → ⊥
    row_none row t read e (inl h) =
        defect_or_cut (row_parts s row) (import_row_text it row) h.defect read.0 h.uncut.0 read.2.cut
    row_none row t read e (inr h) =
        let p = row_parts s row in
        let there = subst (λ (ts : List Token). IsUnreadAs p [] (row_sort s) ts
        (length (import_row_text it row)) h.why)
        (one_cut p (import_row_text it row) h.unread.0.0 read.0 h.unread.0.1 read.2.cut) h.unread.0.2 in
        unread_or_read p [] (row_sort s) read.0 (length (import_row_text it row)) h.why read.1 there
        read.2.answer

    -- ---- the steps

    -- the import is in another language
    abbrev Apart : ImportError → Type 0
    Apart e = (e ≡ LanguageDiffers number it.language.name) ×
        (it.language.name ≢ s.language.name)

    abbrev SameName : Type 0
    SameName = it.language.name ≡ s.language.name

    -- it keeps another digest
    pub record Keeps (e : ImportError) : Type 0 where
      kept : Digest
      found : Digest
      is : e ≡ Differs number kept found
      kept_is : kept.bytes ≡ it.language.digest
      found_is : found.bytes ≡ s.language.digest
      other : it.language.digest ≢ s.language.digest

    abbrev SameDigest : Type 0
    SameDigest = it.language.digest ≡ s.language.digest

    abbrev IsSigned : Type 0
    IsSigned = (t : Tree) × IsImportRowRead s it Signature t

    -- its stated signature is seen and not read
    abbrev BadStated : ImportError → Type 0
    BadStated e = SeesStated s it × BadRow Stated e

    abbrev IsStated : Type 0
    IsStated = SeesStated s it → (t : Tree) × IsImportRowRead s it Stated t

    -- it is read, and another
    abbrev Other : ImportError → Type 0
    Other e = (e ≡ StatedDiffers number it.signature it.stated) × StatesOther s it

    abbrev IsSeen : Type 0
    IsSeen = (t : Tree) × IsGoodImport s it t

    -- the environment is too deep with it
    abbrev Deep : ImportError → Type 0
    Deep e = (depth : ℕ) × (e ≡ TooDeep depth) × IsImportTooDeep s before it depth

    abbrev FromOther : ImportError → Type 0
    FromOther = Step Other IsSeen Deep

    abbrev FromStated : ImportError → Type 0
    FromStated = Step BadStated IsStated FromOther

    abbrev FromSigned : ImportError → Type 0
    FromSigned = Step (BadRow Signature) IsSigned FromStated

    abbrev FromKept : ImportError → Type 0
    FromKept = Step Keeps SameDigest FromSigned

    abbrev pub Steps : ImportError → Type 0
    Steps = Step Apart SameName FromKept

    good_is_stated : (t : Tree) → IsGoodImport s it t → IsStated
    good_is_stated t good = by_cases good.sees
      where
        by_cases : Sees s it good.signature t → IsStated
        by_cases (inl h) = λ _. (t, h.1)
        by_cases (inr h) = λ sees. absurd (h.0 sees)

    -- each refusal stands at its step
    pub steps_of : (e : ImportError) → IsBadImport s number before it e → e ≢ Memory → Steps e
    steps_of Memory h not = absurd (not refl)
    steps_of (LanguageDiffers import language) h not = inl
        ((λ i. LanguageDiffers (h.0 i) (h.1 i)), h.2)
    steps_of (Differs import kept found) h not = inr (
      h.1,
      inl (record {
        kept = kept;
        found = found;
        is = ap (λ n. Differs n kept found) h.0;
        kept_is = h.2;
        found_is = h.3;
        other = h.4;
      }),
    )
    steps_of (BadTokens import line column x) (same, (Signature, due, uncut)) not = inr (
      due.0,
      inr (
        due.1,
        inl (inl (record {
          line = line;
          column = column;
          defect = x;
          is = ap (λ n. BadTokens n line column x) same;
          uncut = uncut;
        })),
      ),
    )
    steps_of (BadTokens import line column x) (same, (Stated, due, uncut)) not = inr (
      due.0.0,
      inr (
        due.0.1,
        inr (
          due.1,
          inl (
            due.2,
            inl (record {
              line = line;
              column = column;
              defect = x;
              is = ap (λ n. BadTokens n line column x) same;
              uncut = uncut;
            }),
          ),
        ),
      ),
    )
    steps_of (Read import line column u) (same, (Signature, due, unread)) not = inr (
      due.0,
      inr (
        due.1,
        inl (inr (record {
          line = line;
          column = column;
          why = u;
          is = ap (λ n. Read n line column u) same;
          unread = unread;
        })),
      ),
    )
    steps_of (Read import line column u) (same, (Stated, due, unread)) not = inr (
      due.0.0,
      inr (
        due.0.1,
        inr (
          due.1,
          inl (
            due.2,
            inr (record {
              line = line;
              column = column;
              why = u;
              is = ap (λ n. Read n line column u) same;
              unread = unread;
            }),
          ),
        ),
      ),
    )
    steps_of (StatedDiffers import kept found) h not =
        let due = h.3.due in
        inr (
          due.0.0,
          inr (
            due.0.1,
            inr (
              due.1,
              inr (
                (λ _. (h.3.stated, h.3.read_stated)),
                inl ((λ i. StatedDiffers (h.0 i) (h.1 i) (h.2 i)), h.3),
              ),
            ),
          ),
        )
    steps_of (TooDeep depth) h not =
        let good = h.good in
        inr (
          good.language.0,
          inr (
            good.language.1,
            inr (
              (good.signature, good.read),
              inr (good_is_stated h.seen good, inr ((h.seen, good), (depth, refl, h))),
            ),
          ),
        )

    -- ---- none is due

    stated_none : (e : ImportError) → BadStated e → IsStated → ⊥
    stated_none e h read = let r = read h.0 in row_none Stated r.0 r.1 e h.1

    seen_none : (h : StatesOther s it) (t : Tree) (good : IsGoodImport s it t) →
        Sees s it good.signature t → ⊥
    seen_none h t good (inl k) =
        let signed = read_one it Signature good.signature h.signature good.read h.read in
        let stated = read_one it Stated h.stated t h.read_stated k.1 in
        h.other (ap (image s.dialect.set.table) stated ∙ k.2 ∙ signed)
    seen_none h t good (inr k) = k.0 h.due.2

    other_none : (e : ImportError) → Other e → IsSeen → ⊥
    other_none e h (t, good) = seen_none h.1 t good good.sees

    deep_none : (t : Tree) → IsGoodImport s it t →
        depth_of (with_import s before it.name t) ≤ 1000 →
        (e : ImportError) → Deep e → ⊥
    deep_none t good shallow e (depth, is, h) =
        let seen = good_one it h.seen t h.good good in
        let same = ap (λ (x : Tree). depth_of (with_import s before it.name x)) seen in
        let deep = h.deep in
        let depth_is = h.is in
        absurd (omega (arith, same, deep, depth_is, shallow))

    -- a good import is not refused, where the environment with it is not too deep
    pub steps_none : (t : Tree) → IsGoodImport s it t →
        depth_of (with_import s before it.name t) ≤ 1000 → (e : ImportError) → Steps e → ⊥
    steps_none t good shallow =
        step_none Apart SameName FromKept (λ e h n. h.1 n) good.language.0
        (step_none Keeps SameDigest FromSigned (λ e h n. h.other n) good.language.1
        (step_none (BadRow Signature) IsSigned FromStated
        (λ e h n. row_none Signature n.0 n.1 e h) (good.signature, good.read)
        (step_none BadStated IsStated FromOther stated_none (good_is_stated t good)
        (step_none Other IsSeen Deep other_none (t, good) (deep_none t good shallow)))))

    -- ---- two refusals

    module _ (its : List InterfaceParts) (at : slice_get its number ≡ Some it) where
      abbrev Alike : ImportError → ImportError → Type 0
      Alike e d = AreImportsAlike s its e d

      uncut_one : (row : Row) (e d : ImportError) → Uncut row e → Uncut row d → Alike e d
      uncut_one row e d h k =
          let same =
          defect_one (row_parts s row) (import_row_text it row) h.defect k.defect h.uncut.0 k.uncut.0
          in
          let line : h.line ≡ k.line = h.uncut.1.0 ∙ sym k.uncut.1.0 in
          let column : h.column ≡ k.column =
          h.uncut.1.1 ∙ ap (λ x. 1 + defect_place x) same ∙ sym k.uncut.1.1 in
          inl (h.is ∙ (λ i. BadTokens number (line i) (column i) (same i)) ∙ sym k.is)

      reads_alike : (row : Row) (e d : ImportError) (h : Unreads row e) (k : Unreads row d) →
          (h.why ≡ k.why) ⊎ (ShowTwo h.why k.why × HasThree (row_parts s row) (row_sort s)
          (import_row_text it row)) → Alike e d
      reads_alike row e d h k (inl same) =
          let line : h.line ≡ k.line = h.unread.1.0 ∙ sym k.unread.1.0 in
          let column : h.column ≡ k.column =
          h.unread.1.1 ∙ ap (λ x. 1 + unread_place x) same ∙ sym k.unread.1.1 in
          inl (h.is ∙ (λ i. Read number (line i) (column i) (same i)) ∙ sym k.is)
      reads_alike row e d h k (inr (two, three)) =
          let line : k.line ≡ h.line = k.unread.1.0 ∙ sym h.unread.1.0 in
          let column : k.column ≡ h.column =
          k.unread.1.1 ∙ ap (λ x. 1 + unread_place x) two.second
          ∙ sym (ap (λ x. 1 + unread_place x) two.first) ∙ sym h.unread.1.1 in
          inr (record {
            import = number;
            line = h.line;
            column = h.column;
            one = two.one;
            other = two.other;
            some = two.some;
            more = two.more;
            first = h.is ∙ ap (Read number h.line h.column) two.first;
            second = k.is ∙ (λ i. Read number (line i) (column i) (two.second i));
            it = it;
            is = at;
            three = (row, three);
          })

      row_alike : (row : Row) → steps.AreAlike Alike (BadRow row)
      row_alike row e d (inl h) (inl k) = uncut_one row e d h k
      row_alike row e d (inl h) (inr k) = absurd (uncut_unread row e d h k)
      row_alike row e d (inr h) (inl k) = absurd (uncut_unread row d e k h)
      row_alike row e d (inr h) (inr k) =
          reads_alike row e d h k
          (unread_one (row_parts s row) (row_sort s) (import_row_text it row) (length (import_row_text it row))
          h.unread.0.0 k.unread.0.0 h.why k.why h.unread.0.1 k.unread.0.1 h.unread.0.2 k.unread.0.2)

      apart_alike : steps.AreAlike Alike Apart
      apart_alike e d h k = inl (h.0 ∙ sym k.0)

      keeps_alike : steps.AreAlike Alike Keeps
      keeps_alike e d h k =
          let kept : h.kept ≡ k.kept = λ i. record { bytes = (h.kept_is ∙ sym k.kept_is) i } in
          let found : h.found ≡ k.found = λ i. record { bytes = (h.found_is ∙ sym k.found_is) i } in
          inl (h.is ∙ (λ i. Differs number (kept i) (found i)) ∙ sym k.is)

      stated_alike : steps.AreAlike Alike BadStated
      stated_alike e d h k = row_alike Stated e d h.1 k.1

      other_alike : steps.AreAlike Alike Other
      other_alike e d h k = inl (h.0 ∙ sym k.0)

      deep_alike : steps.AreAlike Alike Deep
      deep_alike e d (depth, is, h) (other, too, k) =
          let seen = good_one it h.seen k.seen h.good k.good in
          let same : depth ≡ other =
          h.is ∙ ap (λ (t : Tree). depth_of (with_import s before it.name t)) seen ∙ sym k.is in
          inl (is ∙ ap TooDeep same ∙ sym too)

      pub steps_alike : steps.AreAlike Alike Steps
      steps_alike =
          step_alike Apart SameName FromKept (λ e h n. h.1 n) Alike apart_alike
          (step_alike Keeps SameDigest FromSigned (λ e h n. h.other n) Alike keeps_alike
          (step_alike (BadRow Signature) IsSigned FromStated
          (λ e h n. row_none Signature n.0 n.1 e h)
          Alike (row_alike Signature)
          (step_alike BadStated IsStated FromOther stated_none Alike stated_alike
          (step_alike Other IsSeen Deep other_none Alike other_alike deep_alike))))
