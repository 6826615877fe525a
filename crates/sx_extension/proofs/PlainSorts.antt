-- The plain bodies that are read are of the sorts of their productions.
use Rattle.std.proofs.Common.{◌≡◌, ℕ, suc, ◌+◌, inl, inr, Bool, true, false, if◌then◌else◌, cond, List, [], ◌∷◌, ◌++◌, length, map, Option, Some, Contains, refl, ap, ◌∙◌, sym, subst, arith}
use Rattle.std.specs.Prelude.{slice_get, flat_map, option_map}
use Rattle.std.specs.List.{AllByRecursion, find}
use Rattle.std.specs.Str.{bytes_eq}
use Rattle.std.proofs.lemmas.Slice.Eq.{bytes_eq-Decides}
use Rattle.std.proofs.lemmas.List.{length-map}
use Rattle.std.proofs.lemmas.Option.{slice_get-map, none-some}
use Rattle.sx_term.specs.declared.lex_kind.LexKind.{LexKind}
use Rattle.sx_term.specs.declared.lex_kind.LexKind.TheVariants.{Id, Num, Str}
use Rattle.sx_term.specs.declared.sort.Sort.{Sort}
use Rattle.sx_term.specs.declared.sort.Sort.TheVariants as TheSort
use Rattle.sx_term.specs.Sorts.{Shape, HasSort}
use Rattle.sx_term.specs.Untyped.{IsUntypedSort}
use Rattle.sx_grammar.specs.declared.symbol.Symbol as declared
use Rattle.sx_grammar.specs.declared.symbol.Symbol.TheVariants as names_of
use Rattle.sx_grammar.specs.declared.sort_line.SortLine.{SortLine}
use Rattle.sx_grammar.specs.Grammar.{Text, Production}
use Rattle.sx_grammar.specs.Parts.{Line, Parts, names, labels, number_of, numbered, numbered_symbol}
use Rattle.sx_grammar.specs.Parts.{numbered_line, symbol_sorts, sorts_named}
use Rattle.sx_grammar.specs.Made.{IsGrammar}
use Rattle.sx_grammar.specs.Told.{is_typed, sort_with, kid_sorts, shape_of, shapes_of}
use Rattle.sx_grammar.proofs.Finding.{at_contains, is_head, past_head, in_flat_map}
use Rattle.sx_grammar.specs.Stems.{without_digits}
use Rattle.sx_earley.specs.Tokens.{Stems, stem_sort}
use Rattle.sx_directives.specs.Spelling.{lex_text}
use Rattle.sx_directives.specs.declared.rows.FormLine.{FormLine}
use Rattle.sx_directives.specs.declared.rows.VarLine.{VarLine}
use Rattle.sx_outline.specs.Declarations.{Declared}
use Rattle.sx_outline.specs.Fitting.{parts_of_symbols, IsVariableOf, NamesFit, IsPlain, ArePartNames}
use Rattle.sx_outline.specs.Stages.{PlainData}
use Rattle.sx_notation.specs.ReadText.{ReaderData, IsReadLine}
use Rattle.sx_notation.specs.RuleParts.{rule_parts}
use Rattle.sx_notation.proofs.AmongNames.{among_is_read}
use Rattle.sx_notation.proofs.ReadLexemes.{reads_are_shallow}
use Rattle.sx_notation.proofs.Growing.{got_behind-at}
use Rattle.sx_language.specs.RuleTexts.{HaveStemSorts}
use Rattle.sx_language.specs.States.{IsSortNamed, AreStems}
use Rattle.sx_language.proofs.MainForms.{first_named}
use Rattle.sx_language.proofs.SortedReads.{reads_are_sorted}
use Rattle.sx_extension.specs.PlainBodies.{BodyData, IsBodyOf}
use Rattle.sx_extension.specs.Readings.{IsPlainRead, ArePlainsRead}
use Rattle.sx_extension.specs.TableRefusals.{HaveParts}
use Rattle.sx_extension.proofs.OwnShapes.{IsBelow, sort_below, number_below, sorted_by_base}
use Rattle.sx_extension.proofs.Grounding.{sort_read}

-- ---- stems

-- the sort of the first stem that is this one
found_sort : (p : Parts) (vs : List VarLine) (ss : Stems) (stem : Text) (v : VarLine) → AreStems p vs ss → find (λ w. bytes_eq w.stem stem) vs ≡ Some v → (s : Sort) × (stem_sort ss stem ≡ Some s) × IsSortNamed p v.sort s
found_sort p [] ss stem v are e = absurd (none-some v e)
found_sort p (w ∷ vs) [] stem v are e = absurd are
found_sort p (w ∷ vs) (x ∷ ss) stem v are e =
    subst (λ (n : Text). (s : Sort) × ((if bytes_eq n stem then Some x.1 else stem_sort ss stem) ≡ Some s) × IsSortNamed p v.sort s) (sym are.0) (by (bytes_eq w.stem stem) (found_sort p vs ss stem v are.2) e)
  where
    by : (b : Bool) → (find (λ y. bytes_eq y.stem stem) vs ≡ Some v → (s : Sort) × (stem_sort ss stem ≡ Some s) × IsSortNamed p v.sort s) → (if b then Some w else find (λ y. bytes_eq y.stem stem) vs) ≡ Some v →
        (s : Sort) × ((if b then Some x.1 else stem_sort ss stem) ≡ Some s) × IsSortNamed p v.sort s
    by true rest k = let q : w ≡ v = cc in (x.1, refl, subst (λ (y : VarLine). IsSortNamed p y.sort x.1) q are.1)
    by false rest k = rest k

-- kinds with one text are one kind, by the first byte of their texts
abbrev first_byte : Text → ℕ
first_byte [] = 0
first_byte (c ∷ cs) = c

told_apart : (a b : LexKind) → first_byte (lex_text a) ≡ first_byte (lex_text b) → a ≡ b
told_apart Id Id e = refl
told_apart Num Num e = refl
told_apart Str Str e = refl
told_apart Id Num e = absurd (omega (arith, e))
told_apart Id Str e = absurd (omega (arith, e))
told_apart Num Id e = absurd (omega (arith, e))
told_apart Num Str e = absurd (omega (arith, e))
told_apart Str Id e = absurd (omega (arith, e))
told_apart Str Num e = absurd (omega (arith, e))

one_kind : (k l : LexKind) → lex_text k ≡ lex_text l → k ≡ l
one_kind k l e = told_apart k l (ap first_byte e)

-- ---- the names of parts

module _ (p : Parts) (is : IsGrammar p) (d : Declared) (stems : Stems) (are : AreStems p d.vars stems) where
  abbrev f : Text → Option Sort
  f name = stem_sort stems (without_digits name)

  var_sort : (name sort : Text) → IsVariableOf d name sort → (s : Sort) × (f name ≡ Some s) × IsSortNamed p sort s
  var_sort name sort h =
      let x = found_sort p d.vars stems (without_digits name) h.0 are h.1 in
      (x.0, x.1, subst (λ (n : Text). IsSortNamed p n x.0) h.2 x.2)

  kind_sort : (name : Text) (kind : LexKind) → IsVariableOf d name (lex_text kind) → f name ≡ Some (TheSort.Lex kind)
  kind_sort name kind h = let x = var_sort name (lex_text kind) h in x.1 ∙ by x.0 x.2
    where
      by : (s : Sort) → IsSortNamed p (lex_text kind) s → Some s ≡ Some (TheSort.Lex kind)
      by s (inl y) = ap (λ (z : Sort). Some z) (y.2 ∙ ap (λ (k : LexKind). TheSort.Lex k) (sym (one_kind kind y.0 y.1)))
      by s (inr y) = absurd (y.0 kind refl)

  part_sort : (name sort : Text) → Contains (sorts_named p) sort → IsVariableOf d name sort → f name ≡ Some (sort_with p.sorts (number_of (names p) sort))
  part_sort name sort has h = let x = var_sort name sort h in x.1 ∙ by x.0 x.2
    where
      no_kind : (kind : LexKind) → sort ≡ lex_text kind → ⊥
      no_kind Id e = is.0.0.0.0.1 sort has (inr (inl e))
      no_kind Num e = is.0.0.0.0.1 sort has (inr (inr (inl e)))
      no_kind Str e = is.0.0.0.0.1 sort has (inr (inr (inr e)))

      by : (s : Sort) → IsSortNamed p sort s → Some s ≡ Some (sort_with p.sorts (number_of (names p) sort))
      by s (inl y) = absurd (no_kind y.0 y.1)
      by s (inr y) = ap (λ (z : Sort). Some z) y.2

  module _ (l : Line) (has : Contains p.productions l) where
    part_named : (name : Text) (least : ℕ) → Contains l.symbols (names_of.Part name least) → Contains (sorts_named p) name
    part_named name least here =
        in_flat_map (λ x. x.sort ∷ flat_map symbol_sorts x.symbols) p.productions l name has
        (past_head l.sort (flat_map symbol_sorts l.symbols) name (in_flat_map symbol_sorts l.symbols (names_of.Part name least) name here (is_head name [])))

    -- the names have the sorts of the parts
    kids_named : (ss : List declared.Symbol) → ((s : declared.Symbol) → Contains ss s → Contains l.symbols s) → (ns : List Text) → NamesFit d ns (parts_of_symbols ss) →
        map f ns ≡ map (λ (s : Sort). Some s) (flat_map (kid_sorts p.sorts) (map (numbered_symbol (names p)) ss))
    kids_named [] inside [] fit = refl
    kids_named [] inside (n ∷ ns) fit = absurd fit
    kids_named (names_of.Lit text ∷ ss) inside ns fit = kids_named ss (λ s h. inside s (past_head (names_of.Lit text) ss s h)) ns fit
    kids_named (names_of.Lex kind ∷ ss) inside [] fit = absurd fit
    kids_named (names_of.Lex kind ∷ ss) inside (n ∷ ns) fit =
        λ i. kind_sort n kind fit.0 i ∷ kids_named ss (λ s h. inside s (past_head (names_of.Lex kind) ss s h)) ns fit.1 i
    kids_named (names_of.Part name least ∷ ss) inside [] fit = absurd fit
    kids_named (names_of.Part name least ∷ ss) inside (n ∷ ns) fit =
        λ i. part_sort n name (part_named name least (inside (names_of.Part name least) (is_head (names_of.Part name least) ss))) fit.0 i
        ∷ kids_named ss (λ s h. inside s (past_head (names_of.Part name least) ss s h)) ns fit.1 i

-- ---- plain bodies

-- where a production that is found by its label stands
found_place : (label : Text) (ls : List Line) (line : Line) → find (λ p. bytes_eq p.label label) ls ≡ Some line → (n : ℕ) × (slice_get ls n ≡ Some line) × (line.label ≡ label)
found_place label [] line e = absurd (none-some line e)
found_place label (l ∷ ls) line e = by (bytes_eq l.label label) refl (found_place label ls line) e
  where
    by : (b : Bool) → bytes_eq l.label label ≡ b → (find (λ p. bytes_eq p.label label) ls ≡ Some line → (n : ℕ) × (slice_get ls n ≡ Some line) × (line.label ≡ label)) →
        (if b then Some l else find (λ p. bytes_eq p.label label) ls) ≡ Some line → (n : ℕ) × (slice_get (l ∷ ls) n ≡ Some line) × (line.label ≡ label)
    by true t rest k =
        let q : l ≡ line = cc in (0, k, subst (λ (y : Line). y.label ≡ label) q ((bytes_eq-Decides l.label label).0 t))
    by false t rest k = let x = rest k in (suc x.0, x.1, x.2)

module _ (p : Parts) (fs : List FormLine) (is : IsGrammar p) (rule_is : IsGrammar (rule_parts p fs)) (d : Declared) (before : List Line) (sorts_are : p.sorts ≡ d.sorts) (whole : p.productions ≡ before ++ d.productions)
    (r : ReaderData) (by : r.parts ≡ rule_parts p fs) (are : AreStems p d.vars r.stems) where
  plain_sort : (name : Text) → IsPlain d name → IsUntypedSort (sort_with p.sorts (number_of (names p) name))
  plain_sort name h k e =
      let n = number_of (names p) name in
      let at : slice_get p.sorts n ≡ Some h.0 = first_named p.sorts name ∙ ap (λ (ss : List SortLine). find (λ s. bytes_eq s.name name) ss) sorts_are ∙ h.1 in
      let untyped : is_typed (slice_get p.sorts n) ≡ false = ap is_typed at ∙ h.2 in
      let q : TheSort.Plain n ≡ TheSort.Typed k = sym (ap (λ (b : Bool). cond b (TheSort.Typed n) (TheSort.Plain n)) untyped) ∙ e in
      cc

  pub plain_body : (l : PlainData) (b : BodyData) → ArePartNames d l.label l.names → IsPlainRead p r l b → IsBodyOf (shapes_of p) (length before) b
  plain_body l b fit read =
      let at = found_place l.label d.productions fit.line fit.line_is in
      let place = length before + at.0 in
      let there : slice_get p.productions place ≡ Some fit.line = ap (λ (ls : List Line). slice_get ls place) whole ∙ got_behind-at before d.productions place at.0 refl ∙ at.1 in
      let labelled : slice_get (labels p) place ≡ Some l.label = slice_get-map (λ x. x.label) p.productions place ∙ ap (option_map (λ x. x.label)) there ∙ ap (λ (t : Text). Some t) at.2 in
      let number : b.label ≡ place = is.0.0.0.1 b.label place l.label read.made_by.0 labelled in
      let here : slice_get p.productions b.label ≡ Some fit.line = ap (slice_get p.productions) number ∙ there in
      let has : Contains p.productions fit.line = at_contains p.productions b.label fit.line here in
      let made = numbered_line (names p) fit.line in
      let row : slice_get (numbered p).productions b.label ≡ Some made = slice_get-map (numbered_line (names p)) p.productions b.label ∙ ap (option_map (numbered_line (names p))) here in
      let same : Some made ≡ Some read.made_by.1.0 = sym row ∙ read.made_by.1.1 in
      let one : made ≡ read.made_by.1.0 = cc in
      let shape : Shape = shape_of p.sorts made in
      let sort_is : read.sort ≡ shape.sort = read.made_by.1.2 ∙ ap (λ (x : Production). sort_with p.sorts x.sort) (sym one) in
      let stems_sorted : HaveStemSorts r.stems l.names shape.kids = kids_named p is d r.stems are fit.line has fit.line.symbols (λ s h. h) l.names fit.fit in
      let named = in_flat_map (λ x. x.sort ∷ flat_map symbol_sorts x.symbols) p.productions fit.line fit.line.sort has (is_head fit.line.sort (flat_map symbol_sorts fit.line.symbols)) in
      let low : IsBelow (length p.sorts) shape.sort = sort_below p fs is rule_is (number_of (names p) fit.line.sort) (number_below p fs is rule_is fit.line.sort named) in
      let among = among_is_read r.parts r.stems read.sort l.body.text l.names b.term read.read in
      let text : IsReadLine (rule_parts p fs) r.stems read.sort l.body.text l.names l.names b.term = subst (λ (y : Parts). IsReadLine y r.stems read.sort l.body.text l.names l.names b.term) by among in
      let sorted : HasSort (shapes_of (rule_parts p fs)) shape.kids b.term read.sort =
      reads_are_sorted p fs d.vars r.stems read.sort l.body.text l.names l.names b.term shape.kids are (sort_read p fs is b.label read.sort read.made_by.1) text stems_sorted in
      record {
        new = let e = number in omega (arith, e);
        shape = shape;
        is = slice_get-map (shape_of p.sorts) (numbered p).productions b.label ∙ ap (option_map (shape_of p.sorts)) row;
        plain = plain_sort fit.line.sort fit.plain;
        many = read.many ∙ sym (length-map l.names (λ name. stem_sort r.stems (without_digits name))) ∙ ap length stems_sorted ∙ length-map shape.kids (λ (s : Sort). Some s);
        sorted = sorted_by_base p fs is rule_is shape.kids b.term shape.sort low (subst (λ (s : Sort). HasSort (shapes_of (rule_parts p fs)) shape.kids b.term s) sort_is sorted);
        shallow = reads_are_shallow r.parts r.stems read.sort l.body.text l.names l.names b.term among;
      }

  pub plain_bodies : (ls : List PlainData) (bs : List BodyData) → AllByRecursion (λ l. ArePartNames d l.label l.names) ls → ArePlainsRead p r ls bs → AllByRecursion (IsBodyOf (shapes_of p) (length before)) bs
  plain_bodies [] [] fit read = tt
  plain_bodies [] (b ∷ bs) fit read = absurd read
  plain_bodies (l ∷ ls) [] fit read = absurd read
  plain_bodies (l ∷ ls) (b ∷ bs) fit read = (plain_body l b fit.0 read.0, plain_bodies ls bs fit.1 read.1)

-- plain bodies that are read have as many parts as their pairs have names
pub parts_read : (p : Parts) (r : ReaderData) (ls : List PlainData) (bs : List BodyData) → ArePlainsRead p r ls bs → HaveParts ls bs
parts_read p r [] [] read = tt
parts_read p r [] (b ∷ bs) read = absurd read
parts_read p r (l ∷ ls) [] read = absurd read
parts_read p r (l ∷ ls) (b ∷ bs) read = (read.0.many, parts_read p r ls bs read.1)
