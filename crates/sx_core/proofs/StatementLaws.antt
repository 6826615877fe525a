-- Judgements, axioms and goals in lines.
use Rattle.std.proofs.Common.{◌≡◌, ℕ, zero, suc, ◌+◌, ◌<◌, List, [], ◌∷◌, ◌++◌, length, Bool, true, false, Some, get_or, take, map, append_assoc, sym, refl, ap, ◌∙◌, subst, arith}
use Rattle.std.specs.Prelude.{slice_get, Contains}
use Rattle.sx_term.specs.Tree.{Tree, depth_of}
use Rattle.sx_term.specs.Read.{StandsAt}
use Rattle.sx_term.specs.Core.{core}
use Rattle.sx_term.specs.declared.sort.Sort.{Sort}
use Rattle.sx_term.specs.Sorts.{Shape, HaveSorts}
use Rattle.sx_term.proofs.OneReading.{one_reading}
use Rattle.sx_rules.specs.Deep.{AreShallow}
use Rattle.sx_rules.specs.Modes.{Goal, inputs}
use Rattle.sx_rules.specs.Rules.{Judgement}
use Rattle.std.proofs.lemmas.Option.{slice_get-get_or}
use Rattle.sx_rules.specs.declared.rule.Place.{Place}
use Rattle.sx_rules.specs.Views.{is_out, FormData, places_at, modes_of, sorts_of}
use Rattle.sx_core.specs.File.{JudgementRow, judgement_text, words_text}
use Rattle.sx_core.specs.Stated.{NamesForm, AreReadable, subject_count}
use Rattle.sx_lines.specs.Distinct.{AreTextsDistinct}
use Rattle.sx_core.specs.TermsText.{terms_text, HaveCores, RowRead, IsDeepRow, RefusedAs}
use Rattle.sx_core.specs.Words.{BlankFirst, IsNameRead, NameRefused}
use Rattle.sx_core.specs.Statements.{form_names, IsFormRead, FormRefused, IsJudgementRead}
use Rattle.sx_core.specs.Statements.{IsDeepJudgement, IsInputsRead, IsGoalRead, IsDeepGoal}
use Rattle.sx_core.specs.declared.terms_row.RowError.{RowError}
use Rattle.sx_core.specs.declared.terms_row.RowError.TheVariants.{Memory, Shape as Bad, TooDeep}
use Rattle.sx_core.proofs.TermsLaws.{tail_is, nothing_is, no_digit_terms, digits_after, one_only}
use Rattle.sx_core.proofs.Wording.{name_space, one_word}
use Rattle.sx_core.proofs.NumberLaws.{contains_at, one_place}
use Rattle.sx_core.proofs.SortLaws.{take_one, some_same, none_some}

-- ---- terms

pub terms_same : (ts us : List Tree) → HaveCores ts → HaveCores us → terms_text ts ≡ terms_text us → ts ≡ us
terms_same [] [] h k e = refl
terms_same [] (u ∷ us) h k e = absurd (nothing_is 32 (core u ++ terms_text us) e)
terms_same (t ∷ ts) [] h k e = absurd (nothing_is 32 (core t ++ terms_text ts) (sym e))
terms_same (t ∷ ts) (u ∷ us) h k e =
    let q = one_reading t u (terms_text ts) (terms_text us) h.0 k.0 (no_digit_terms ts) (no_digit_terms us) (tail_is 32 32 (core t ++ terms_text ts) (core u ++ terms_text us) e) in
    ap (λ (x : Tree). x ∷ ts) q.0 ∙ ap (λ (x : List Tree). u ∷ x) (terms_same ts us h.1 k.1 q.1)

pub words_terms : (ts : List Tree) → words_text (map core ts) ≡ terms_text ts
words_terms [] = refl
words_terms (t ∷ ts) = ap (λ (x : List ℕ). 32 ∷ (core t ++ x)) (words_terms ts)

pub judgement_open : (row : JudgementRow) → judgement_text row ≡ 32 ∷ (row.form ++ terms_text row.terms)
judgement_open row = ap (λ (x : List ℕ). 32 ∷ (row.form ++ x)) (words_terms row.terms)

pub terms_stop : (ts : List Tree) → BlankFirst (terms_text ts)
terms_stop [] = tt
terms_stop (t ∷ ts) = refl

pub readable_of : (ts : List Tree) → HaveCores ts → AreShallow ts → AreReadable ts
readable_of [] h k = tt
readable_of (t ∷ ts) h k = (h.0, k.0, readable_of ts h.1 k.1)

pub cores_of : (ts : List Tree) → AreReadable ts → HaveCores ts
cores_of [] h = tt
cores_of (t ∷ ts) h = (h.0, cores_of ts h.2)

pub shallow_of : (ts : List Tree) → AreReadable ts → AreShallow ts
shallow_of [] h = tt
shallow_of (t ∷ ts) h = (h.1, shallow_of ts h.2)

-- ---- forms

map_get : {A : Type 0} (f : A → List ℕ) (xs : List A) (n : ℕ) (y : List ℕ) → slice_get (map f xs) n ≡ Some y → (x : A) × (slice_get xs n ≡ Some x) × (f x ≡ y)
map_get f [] n y e = absurd (none_some y e)
map_get f (x ∷ xs) zero y e = (x, refl, some_same (f x) y e)
map_get f (x ∷ xs) (suc n) y e = map_get f xs n y e

pub form_named : (known : List FormData) (n : ℕ) (name : List ℕ) → slice_get (form_names known) n ≡ Some name → NamesForm known name n
form_named known n name e = map_get (λ (f : FormData). f.name) known n name e

named_form : (known : List FormData) (n : ℕ) (name : List ℕ) (f : FormData) → slice_get known n ≡ Some f → f.name ≡ name → slice_get (form_names known) n ≡ Some name
named_form [] n name f e q = absurd (none_some f e)
named_form (x ∷ known) zero name f e q = ap (λ (y : FormData). Some y.name) (some_same x f e) ∙ ap Some q
named_form (x ∷ known) (suc n) name f e q = named_form known n name f e q

pub form_number : (known : List FormData) (n : ℕ) (name : List ℕ) → NamesForm known name n → slice_get (form_names known) n ≡ Some name
form_number known n name h = named_form known n name h.0 h.1 h.2

pub form_read : (known : List FormData) (text name rest : List ℕ) (n : ℕ) → IsNameRead text name rest → slice_get (form_names known) n ≡ Some name → IsFormRead known text n rest
form_read known text name rest n r e = record { word = name; parts = r.parts; named = r.named; stops = r.stops; is = form_named known n name e }

pub form_none : (known : List FormData) (text name rest : List ℕ) → IsNameRead text name rest → (Contains (form_names known) name → ⊥) → FormRefused known text Bad
form_none known text name rest r n = λ form more h.
    let q = one_word h.word name more rest (name_space h.word h.named) (name_space name r.named) h.stops r.stops (tail_is 32 32 (h.word ++ more) (name ++ rest) (sym h.parts ∙ r.parts)) in
    n (contains_at (form_names known) form name (form_number known form h.word h.is ∙ ap Some q.0))

pub form_unnamed : (known : List FormData) (text : List ℕ) (e : RowError) → NameRefused text e → FormRefused known text e
form_unnamed known text Memory h = tt
form_unnamed known text Bad h = λ form rest r. h r.word rest r.named r.stops r.parts
form_unnamed known text (TooDeep depth) h = h

module _ (known : List FormData) (d : AreTextsDistinct (form_names known)) where
  pub form_same : (text : List ℕ) (f g : ℕ) (rest more : List ℕ) → IsFormRead known text f rest → IsFormRead known text g more → (f ≡ g) × (rest ≡ more)
  form_same text f g rest more h k =
      let q = one_word h.word k.word rest more (name_space h.word h.named) (name_space k.word k.named) h.stops k.stops (tail_is 32 32 (h.word ++ rest) (k.word ++ more) (sym h.parts ∙ k.parts)) in
      (one_place (form_names known) d f g k.word (form_number known f h.word h.is ∙ ap Some q.0) (form_number known g k.word k.is), q.1)

-- ---- judgements

module _ (known : List FormData) where
  pub judgement_is : (text : List ℕ) (form : ℕ) (rest : List ℕ) (ts : List Tree) → IsFormRead known text form rest → RowRead rest (length (places_at known form)) ts → IsJudgementRead known text (record { form = form; places = ts })
  judgement_is text form rest ts f r = record {
    row = record { form = f.word; terms = ts };
    parts = f.parts ∙ ap (λ (x : List ℕ). 32 ∷ (f.word ++ x)) r.3 ∙ sym (judgement_open (record { form = f.word; terms = ts }));
    named = f.named;
    is = record { form = f.is; places = refl; readable = readable_of ts r.1 r.2; many = r.0 };
  }

  pub judgement_no_form : (text : List ℕ) (e : RowError) → FormRefused known text e → RefusedAs (IsJudgementRead known text) (IsDeepJudgement known text) e
  judgement_no_form text Memory n = tt
  judgement_no_form text Bad n = ((λ j h. n j.form (terms_text h.row.terms) (record { word = h.row.form; parts = h.parts ∙ judgement_open h.row; named = h.named; stops = terms_stop h.row.terms; is = h.is.form })), λ d h. n h.form h.rest h.is)
  judgement_no_form text (TooDeep depth) n = absurd n

  pub form_of : (text : List ℕ) (j : Judgement) (h : IsJudgementRead known text j) → IsFormRead known text j.form (terms_text h.row.terms)
  form_of text j h = record { word = h.row.form; parts = h.parts ∙ judgement_open h.row; named = h.named; stops = terms_stop h.row.terms; is = h.is.form }

module _ (known : List FormData) (d : AreTextsDistinct (form_names known)) where
  -- the terms of a judgement are what stands after the form
  terms_after : (text : List ℕ) (form : ℕ) (rest : List ℕ) → IsFormRead known text form rest → (j : Judgement) (h : IsJudgementRead known text j)
      → (length h.row.terms ≡ length (places_at known form)) × HaveCores h.row.terms × AreShallow h.row.terms × (rest ≡ terms_text h.row.terms)
  terms_after text form rest f j h =
      let q = form_same known d text form j.form rest (terms_text h.row.terms) f (form_of known text j h) in (
        sym (ap length h.is.places) ∙ h.is.many ∙ ap (λ n. length (places_at known n)) (sym q.0),
        cores_of h.row.terms h.is.readable,
        shallow_of h.row.terms h.is.readable,
        q.1,
      )

  deep_after : (text : List ℕ) (form : ℕ) (rest : List ℕ) → IsFormRead known text form rest → (depth : ℕ) → IsDeepJudgement known text depth → IsDeepRow rest (length (places_at known form)) depth
  deep_after text form rest f depth h =
      let q = form_same known d text form h.form rest h.rest f h.is in
      subst (λ (x : List ℕ). IsDeepRow x (length (places_at known form)) depth) (sym q.1) (subst (λ (n : ℕ). IsDeepRow h.rest (length (places_at known n)) depth) (sym q.0) h.deep)

  pub judgement_not : (text : List ℕ) (form : ℕ) (rest : List ℕ) (e : RowError) → IsFormRead known text form rest → RefusedAs (RowRead rest (length (places_at known form))) (IsDeepRow rest (length (places_at known form))) e → RefusedAs (IsJudgementRead known text) (IsDeepJudgement known text) e
  judgement_not text form rest Memory f r = tt
  judgement_not text form rest Bad f r = ((λ j h. r.0 h.row.terms (terms_after text form rest f j h)), λ depth h. r.1 depth (deep_after text form rest f depth h))
  judgement_not text form rest (TooDeep depth) f r = ((λ j h. r.0 h.row.terms (terms_after text form rest f j h)), record { form = form; rest = rest; is = f; deep = r.1 })

  pub judgement_same : (text : List ℕ) (j k : Judgement) → IsJudgementRead known text j → IsJudgementRead known text k → j ≡ k
  judgement_same text j k h g =
      let q = form_same known d text j.form k.form (terms_text h.row.terms) (terms_text g.row.terms) (form_of known text j h) (form_of known text k g) in
      let t = terms_same h.row.terms g.row.terms (cores_of h.row.terms h.is.readable) (cores_of g.row.terms g.is.readable) q.1 in
      ap (λ (n : ℕ). record { form = n; places = j.places }) q.0 ∙ ap (λ (x : List Tree). record { form = k.form; places = x }) (h.is.places ∙ t ∙ sym g.is.places)

-- ---- inputs

-- good terms are not too deep
pub row_not_deep : (n : ℕ) (ts good : List Tree) (deep : Tree) (rest : List ℕ) (end : ℕ) → HaveCores ts → AreShallow ts → HaveCores good → terms_text ts ≡ terms_text good ++ (32 ∷ rest) → StandsAt rest 0 end deep → 1000 < depth_of deep → ⊥
row_not_deep n [] [] deep rest end c a g e k over = nothing_is 32 rest e
row_not_deep n [] (u ∷ us) deep rest end c a g e k over = nothing_is 32 ((core u ++ terms_text us) ++ (32 ∷ rest)) e
row_not_deep n (t ∷ ts) [] deep rest end c a g e k over =
    let q = ap depth_of (one_only rest end deep k t (terms_text ts) c.0 (no_digit_terms ts) (sym (tail_is 32 32 (core t ++ terms_text ts) rest e))).0 in
    let w = a.0 in
    absurd (omega arith)
row_not_deep n (t ∷ ts) (u ∷ us) deep rest end c a g e k over =
    let q = one_reading t u (terms_text ts) (terms_text us ++ (32 ∷ rest)) c.0 g.0 (no_digit_terms ts) (digits_after us rest) (tail_is 32 32 (core t ++ terms_text ts) ((core u ++ terms_text us) ++ (32 ∷ rest)) e ∙ append_assoc (core u) (terms_text us) (32 ∷ rest)) in
    row_not_deep n ts us deep rest end c.1 a.1 g.1 q.1 k over

module _ (S : List Shape) (sorts : List Sort) (text : List ℕ) where
  pub inputs_no_row : (e : RowError) → RefusedAs (RowRead text (length sorts)) (IsDeepRow text (length sorts)) e → RefusedAs (IsInputsRead S sorts text) (IsDeepRow text (length sorts)) e
  inputs_no_row Memory r = tt
  inputs_no_row Bad r = ((λ ts h. r.0 ts h.row), r.1)
  inputs_no_row (TooDeep depth) r = ((λ ts h. r.0 ts h.row), r.1)

  row_same : (n m : ℕ) (ts us : List Tree) → RowRead text n ts → RowRead text m us → ts ≡ us
  row_same n m ts us r s = terms_same ts us r.1 s.1 (sym r.3 ∙ s.3)

  pub inputs_unsorted : (n : ℕ) (ts : List Tree) → RowRead text n ts → (HaveSorts S [] ts sorts → ⊥) → RefusedAs (IsInputsRead S sorts text) (IsDeepRow text (length sorts)) Bad
  inputs_unsorted n ts r f = (
    (λ us h. f (subst (λ (x : List Tree). HaveSorts S [] x sorts) (row_same (length sorts) n us ts h.row r) h.sorted)),
    λ depth h. row_not_deep n ts h.good h.deep h.rest h.end r.1 r.2 h.cores (sym r.3 ∙ h.parts) h.stands (subst (λ (k : ℕ). 1000 < k) h.is h.over),
  )

  pub inputs_same : (ts us : List Tree) → IsInputsRead S sorts text ts → IsInputsRead S sorts text us → ts ≡ us
  inputs_same ts us h k = row_same (length sorts) (length sorts) ts us h.row k.row

-- ---- the sorts of inputs

inputs_with : (b : Bool) (bs cs : List Bool) (x : Sort) (xs ys tail : List Sort) → inputs cs ys ≡ inputs bs xs ++ tail → inputs (b ∷ cs) (x ∷ ys) ≡ inputs (b ∷ bs) (x ∷ xs) ++ tail
inputs_with true bs cs x xs ys tail e = e
inputs_with false bs cs x xs ys tail e = ap (λ z. x ∷ z) e

abbrev outs : List Place → List Bool
outs ps = map (λ p. is_out p.role) ps

abbrev place_sorts : List Place → List Sort
place_sorts ps = map (λ p. p.sort) ps

inputs_snoc : (ps : List Place) (p : Place) → inputs (outs (ps ++ p ∷ [])) (place_sorts (ps ++ p ∷ [])) ≡ inputs (outs ps) (place_sorts ps) ++ inputs (is_out p.role ∷ []) (p.sort ∷ [])
inputs_snoc [] p = refl
inputs_snoc (q ∷ ps) p = inputs_with (is_out q.role) (outs ps) (outs (ps ++ p ∷ [])) q.sort (place_sorts ps) (place_sorts (ps ++ p ∷ [])) (inputs (is_out p.role ∷ []) (p.sort ∷ [])) (inputs_snoc ps p)

pub inputs_more : (ps : List Place) (i : ℕ) (d : Place) (old new : List Sort) → i < length ps → new ≡ old ++ inputs (is_out (get_or ps i d).role ∷ []) ((get_or ps i d).sort ∷ [])
    → old ≡ inputs (outs (take i ps)) (place_sorts (take i ps)) → new ≡ inputs (outs (take (i + 1) ps)) (place_sorts (take (i + 1) ps))
inputs_more ps i d old new lt e f =
    let p = get_or ps i d in
    let q = take_one ps i p (slice_get-get_or ps i d lt) in
    e ∙ ap (λ x. x ++ inputs (is_out p.role ∷ []) (p.sort ∷ [])) f ∙ sym (inputs_snoc (take i ps) p) ∙ ap (λ (x : List Place). inputs (outs x) (place_sorts x)) (sym q)

-- ---- goals

module _ (S : List Shape) (known : List FormData) where
  pub goal_no_form : (text : List ℕ) (e : RowError) → FormRefused known text e → RefusedAs (IsGoalRead S known text) (IsDeepGoal known text) e
  goal_no_form text Memory n = tt
  goal_no_form text Bad n = ((λ g h. n g.form h.rest h.form), λ depth h. n h.form h.rest h.is)
  goal_no_form text (TooDeep depth) n = absurd n

module _ (S : List Shape) (known : List FormData) (d : AreTextsDistinct (form_names known)) where
  pub goal_no_subject : (text : List ℕ) (form : ℕ) (rest : List ℕ) → IsFormRead known text form rest → (subject_count (places_at known form) ≡ 1 → ⊥) → RefusedAs (IsGoalRead S known text) (IsDeepGoal known text) Bad
  goal_no_subject text form rest f n = (
    (λ g h. let q = form_same known d text form g.form rest h.rest f h.form in n (ap (λ k. subject_count (places_at known k)) q.0 ∙ h.subject)),
    λ depth h. let q = form_same known d text form h.form rest h.rest f h.is in n (ap (λ k. subject_count (places_at known k)) q.0 ∙ h.subject),
  )

  inputs_here : (text : List ℕ) (form : ℕ) (rest : List ℕ) (sorts : List Sort) → IsFormRead known text form rest → sorts ≡ inputs (modes_of known form) (sorts_of known form) → (g : Goal) → IsGoalRead S known text g → IsInputsRead S sorts rest g.terms
  inputs_here text form rest sorts f e g h =
      let q = form_same known d text form g.form rest h.rest f h.form in
      subst (λ (x : List Sort). IsInputsRead S x rest g.terms) (sym e)
      (subst (λ (n : ℕ). IsInputsRead S (inputs (modes_of known n) (sorts_of known n)) rest g.terms) (sym q.0)
      (subst (λ (x : List ℕ). IsInputsRead S (inputs (modes_of known g.form) (sorts_of known g.form)) x g.terms) (sym q.1) h.terms))

  deep_here : (text : List ℕ) (form : ℕ) (rest : List ℕ) (sorts : List Sort) → IsFormRead known text form rest → sorts ≡ inputs (modes_of known form) (sorts_of known form) → (depth : ℕ) → IsDeepGoal known text depth → IsDeepRow rest (length sorts) depth
  deep_here text form rest sorts f e depth h =
      let q = form_same known d text form h.form rest h.rest f h.is in
      subst (λ (x : List Sort). IsDeepRow rest (length x) depth) (sym e)
      (subst (λ (n : ℕ). IsDeepRow rest (length (inputs (modes_of known n) (sorts_of known n))) depth) (sym q.0)
      (subst (λ (x : List ℕ). IsDeepRow x (length (inputs (modes_of known h.form) (sorts_of known h.form))) depth) (sym q.1) h.deep))

  pub goal_no_inputs : (text : List ℕ) (form : ℕ) (rest : List ℕ) (sorts : List Sort) (e : RowError) → IsFormRead known text form rest → subject_count (places_at known form) ≡ 1 → sorts ≡ inputs (modes_of known form) (sorts_of known form) → RefusedAs (IsInputsRead S sorts rest) (IsDeepRow rest (length sorts)) e → RefusedAs (IsGoalRead S known text) (IsDeepGoal known text) e
  goal_no_inputs text form rest sorts Memory f s e n = tt
  goal_no_inputs text form rest sorts Bad f s e n = ((λ g h. n.0 g.terms (inputs_here text form rest sorts f e g h)), λ depth h. n.1 depth (deep_here text form rest sorts f e depth h))
  goal_no_inputs text form rest sorts (TooDeep depth) f s e n = (
    (λ g h. n.0 g.terms (inputs_here text form rest sorts f e g h)),
    record { form = form; rest = rest; is = f; subject = s; deep = subst (λ (x : List Sort). IsDeepRow rest (length x) depth) e n.1 },
  )

  pub goal_is : (text : List ℕ) (form : ℕ) (rest : List ℕ) (sorts : List Sort) (ts : List Tree) → IsFormRead known text form rest → subject_count (places_at known form) ≡ 1 → sorts ≡ inputs (modes_of known form) (sorts_of known form) → IsInputsRead S sorts rest ts → IsGoalRead S known text (record { form = form; terms = ts })
  goal_is text form rest sorts ts f s e h = record { rest = rest; form = f; subject = s; terms = subst (λ (x : List Sort). IsInputsRead S x rest ts) e h }

  pub goal_same : (text : List ℕ) (g k : Goal) → IsGoalRead S known text g → IsGoalRead S known text k → g ≡ k
  goal_same text g k h i =
      let q = form_same known d text g.form k.form h.rest i.rest h.form i.form in
      let w = inputs_here text g.form h.rest (inputs (modes_of known g.form) (sorts_of known g.form)) h.form refl k i in
      let t = inputs_same S (inputs (modes_of known g.form) (sorts_of known g.form)) h.rest g.terms k.terms h.terms w in
      ap (λ (n : ℕ). record { form = n; terms = g.terms }) q.0 ∙ ap (λ (x : List Tree). record { form = k.form; terms = x }) t
