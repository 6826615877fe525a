-- The term of a reading, one step on.
use Rattle.std.proofs.Common.{◌≡◌, ℕ, ◌+◌, ◌<◌, ◌≤◌, List, [], ◌∷◌, ◌++◌, Vec, Option, Some, None, slice_get, option_map, length, map, drop, take, take_all, get_or, refl, ap, ◌∙◌, sym, subst, append_assoc, length-append, arith}
use Rattle.std.proofs.lemmas.Option.{slice_get_read, slice_get_within, slice_get-map}
use Rattle.std.proofs.lemmas.List.{take_more, get_or-map}
use Rattle.std.specs.declared.alloc.Global.{Global}
use Rattle.sx_term.specs.declared.term.Term.{Term}
use Rattle.sx_term.specs.declared.term.Term as terms
use Rattle.sx_term.specs.declared.lex_kind.LexKind.{LexKind}
use Rattle.sx_term.specs.declared.mark.Mark.{Mark}
use Rattle.sx_term.specs.declared.mark.Mark.TheVariants as marks
use Rattle.sx_term.specs.Cutting.{AreDistinct}
use Rattle.sx_term.specs.Vars.{without_tilde}
use Rattle.sx_term.specs.Tree.{Tree, node, lexeme, hole, ◌▹◌, forest}
use Rattle.sx_term.specs.Term.{tree}
use Rattle.sx_term.proofs.Kids.{tree-at_node}
use Rattle.sx_token.specs.declared.token.Token.{Token}
use Rattle.sx_grammar.specs.Grammar as grammars
use Rattle.sx_grammar.specs.Grammar.{Text}
use Rattle.sx_grammar.specs.Print.{term_of, terms_of, leaf_term, variable_term, mark_term}
use Rattle.sx_earley.specs.Tokens.{Stems, read_token, plain_tokens}
use Rattle.sx_forest.specs.declared.reading.Reading.{Reading, Node, Lex, Var}
use Rattle.sx_forest.specs.Readings.{plain_reading, plain_readings}
use Rattle.sx_forest.specs.Names.{IsLexeme, IsMetavariable, IsMarked, AreMarked, reading_names, names_of_kids}
use Rattle.sx_forest.specs.Names.{AddsEach, AddsFront}
use Rattle.sx_forest.proofs.Kids.{reading-at_node, readings-drop, readings-drop_all}
use Rattle.sx_forest.proofs.Naming.{number_at, each_long, each_append, front_after, front_more}

-- the term of a reading by these names
abbrev pub term_by : List grammars.Token → List Text → Reading → Tree
term_by tokens names r = term_of tokens names (plain_reading r)

terms_of-row : (tokens : List grammars.Token) (names : List Text) (rs : List Reading) → terms_of tokens names (plain_readings rs) ≡ forest (map (term_by tokens names) rs)
terms_of-row tokens names [] = refl
terms_of-row tokens names (r ∷ rs) = ap (λ ts. term_by tokens names r ▹ ts) (terms_of-row tokens names rs)

-- a node made of the terms of its kids
pub node_made : (tokens : List grammars.Token) (names : List Text) (r : Reading) (label : ℕ) (kids : Vec Reading Global) (from to : ℕ) (rs : List Reading) (ts : Vec Term Global) (i : ℕ) → r ≡ Node label kids from to → rs ≡ kids.items →
    map tree ts.items ≡ map (term_by tokens names) (take i rs) → length rs ≤ i → tree (terms.Node label ts) ≡ term_by tokens names r
node_made tokens names r label kids from to rs ts i e s m h =
    tree-at_node _ label ts refl ∙ ap (λ x. node label (forest x)) (m ∙ ap (map (term_by tokens names)) (take_all i rs h ∙ s))
    ∙ sym (ap (node label) (terms_of-row tokens names kids.items))
    ∙ sym (ap (term_of tokens names) (reading-at_node r label kids from to e))

map_snoc : {A B : Type 0} (f : A → B) (xs : List A) (x : A) → map f (xs ++ x ∷ []) ≡ map f xs ++ f x ∷ []
map_snoc f [] x = refl
map_snoc f (y ∷ ys) x = ap (λ zs. f y ∷ zs) (map_snoc f ys x)

map_step : {A B : Type 0} (f : A → B) (xs : List A) (i : ℕ) (k : A) → i < length xs → k ≡ get_or xs i k → map f (take (i + 1) xs) ≡ map f (take i xs) ++ f k ∷ []
map_step f xs i k h e = ap (map f) (take_more xs i k h ∙ ap (λ y. take i xs ++ y ∷ []) (sym e)) ∙ map_snoc f (take i xs) k

-- one more kid, where more names were added
pub terms_step : (tokens : List grammars.Token) (old more new later : List Text) (rs : List Reading) (i : ℕ) (k : Reading) (ts now : List Term) (t : Term) → i < length rs → k ≡ get_or rs i k → new ≡ old ++ more →
    map tree ts ≡ map (term_by tokens (old ++ (more ++ later))) (take i rs) → now ≡ ts ++ t ∷ [] → tree t ≡ term_by tokens (new ++ later) k →
    map tree now ≡ map (term_by tokens (new ++ later)) (take (i + 1) rs)
terms_step tokens old more new later rs i k ts now t h g grown before is made =
    let names : old ++ (more ++ later) ≡ new ++ later = sym (append_assoc old more later) ∙ sym (ap (λ x. x ++ later) grown) in
    ap (map tree) is ∙ map_snoc tree ts t
    ∙ ap (λ xs. xs ++ tree t ∷ []) (before ∙ ap (λ x. map (term_by tokens x) (take i rs)) names)
    ∙ ap (λ x. map (term_by tokens (new ++ later)) (take i rs) ++ x ∷ []) made
    ∙ sym (map_step (term_by tokens (new ++ later)) rs i k h g)

-- what a token shows has its text
shown_text : (stems : Stems) (mark : Mark) (text : Text) → (read_token stems mark text).text ≡ text
shown_text stems (marks.Lit n) text = refl
shown_text stems (marks.Lex kind) text = refl
shown_text stems marks.Meta text = refl

-- the token at a place, as the grammar reads it
shown_at : (stems : Stems) (tokens : List Token) (i : ℕ) (t : Token) → i < length tokens → t ≡ get_or tokens i t → slice_get (plain_tokens stems tokens) i ≡ Some (read_token stems t.mark t.text)
shown_at stems tokens i t h e =
    slice_get-map (λ t. read_token stems t.mark t.text) tokens i ∙ ap (option_map (λ t. read_token stems t.mark t.text)) (slice_get_read tokens (length tokens) i t refl h e)

pub variable_made : (stems : Stems) (tokens : List Token) (i : ℕ) (t : Token) (r : Reading) (made : Tree) (new later : List Text) (number : ℕ) → r ≡ Var i → i < length tokens → t ≡ get_or tokens i t → AreDistinct new → slice_get new number ≡ Some (without_tilde t.text) →
    made ≡ hole number → made ≡ term_by (plain_tokens stems tokens) (new ++ later) r
variable_made stems tokens i t r made new later number e h g d at is =
    let s = read_token stems t.mark t.text in
    let same : without_tilde s.text ≡ without_tilde t.text = ap without_tilde (shown_text stems t.mark t.text) in
    is ∙ ap hole (sym (number_at new later (without_tilde s.text) number d (at ∙ ap Some (sym same))))
    ∙ sym (ap (variable_term (new ++ later)) (shown_at stems tokens i t h g))
    ∙ sym (ap (term_by (plain_tokens stems tokens) (new ++ later)) e)

pub lexeme_made : (stems : Stems) (tokens : List Token) (i : ℕ) (t : Token) (r : Reading) (made : Tree) (names : List Text) (kind : LexKind) → r ≡ Lex i → i < length tokens → t ≡ get_or tokens i t → t.mark ≡ marks.Lex kind →
    made ≡ lexeme kind t.text → made ≡ term_by (plain_tokens stems tokens) names r
lexeme_made stems tokens i t r made names kind e h g m is =
    is ∙ sym (ap (λ s. mark_term s.mark s.text) (ap (λ x. read_token stems x t.text) m))
    ∙ sym (ap leaf_term (shown_at stems tokens i t h g))
    ∙ sym (ap (term_by (plain_tokens stems tokens) names) e)

-- a marked lexeme is one of the tokens
lexeme_there : (tokens : List Token) (i : ℕ) (o : Option Token) → o ≡ slice_get tokens i → IsLexeme o → (i < length tokens) × ((t : Token) → t ≡ get_or tokens i t → (kind : LexKind) × (t.mark ≡ marks.Lex kind))
lexeme_there tokens i None e m = absurd m
lexeme_there tokens i (Some u) e m =
    let h = slice_get_within tokens i u (sym e) in
    (h, λ t g. let same : u ≡ t = (let q : Some u ≡ Some t = e ∙ slice_get_read tokens (length tokens) i t refl h g in cc) in subst (λ (x : Token). (kind : LexKind) × (x.mark ≡ marks.Lex kind)) same m)

pub marked_lexeme : (tokens : List Token) (r : Reading) (i : ℕ) → r ≡ Lex i → IsMarked tokens (plain_reading r) → (i < length tokens) × ((t : Token) → t ≡ get_or tokens i t → (kind : LexKind) × (t.mark ≡ marks.Lex kind))
marked_lexeme tokens r i e m = lexeme_there tokens i (slice_get tokens i) refl (subst (λ x. IsMarked tokens (plain_reading x)) e m)

variable_there : (tokens : List Token) (i : ℕ) (o : Option Token) → o ≡ slice_get tokens i → IsMetavariable o → i < length tokens
variable_there tokens i None e m = absurd m
variable_there tokens i (Some u) e m = slice_get_within tokens i u (sym e)

pub marked_variable : (tokens : List Token) (r : Reading) (i : ℕ) → r ≡ Var i → IsMarked tokens (plain_reading r) → i < length tokens
marked_variable tokens r i e m = variable_there tokens i (slice_get tokens i) refl (subst (λ x. IsMarked tokens (plain_reading x)) e m)

pub kids_marked : (tokens : List Token) (r : Reading) (label : ℕ) (kids : Vec Reading Global) (from to : ℕ) (rs : List Reading) → r ≡ Node label kids from to → rs ≡ kids.items → IsMarked tokens (plain_reading r) → AreMarked tokens (plain_readings rs)
kids_marked tokens r label kids from to rs e s m =
    subst (λ x. AreMarked tokens (plain_readings x)) (sym s) (subst (IsMarked tokens) (reading-at_node r label kids from to e) m)

pub marked_step : (tokens : List Token) (rs : List Reading) (i : ℕ) (k : Reading) → i < length rs → k ≡ get_or rs i k → AreMarked tokens (plain_readings (drop i rs)) → IsMarked tokens (plain_reading k) × AreMarked tokens (plain_readings (drop (i + 1) rs))
marked_step tokens rs i k h e m = subst (AreMarked tokens) (readings-drop rs i k h e) m

-- the names of a node are those of its kids
pub names_at_node : (tokens : List Token) (r : Reading) (label : ℕ) (kids : Vec Reading Global) (from to : ℕ) (rs : List Reading) → r ≡ Node label kids from to → rs ≡ kids.items → reading_names tokens (plain_reading r) ≡ names_of_kids tokens (plain_readings rs)
names_at_node tokens r label kids from to rs e s =
    ap (reading_names tokens) (reading-at_node r label kids from to e) ∙ ap (λ x. names_of_kids tokens (plain_readings x)) (sym s)

pub names_step : (tokens : List Token) (rs : List Reading) (i : ℕ) (k : Reading) → i < length rs → k ≡ get_or rs i k → names_of_kids tokens (plain_readings (drop i rs)) ≡ reading_names tokens (plain_reading k) ++ names_of_kids tokens (plain_readings (drop (i + 1) rs))
names_step tokens rs i k h e = ap (names_of_kids tokens) (readings-drop rs i k h e)

pub names_done : (tokens : List Token) (rs : List Reading) (i : ℕ) → length rs ≤ i → names_of_kids tokens (plain_readings (drop i rs)) ≡ []
names_done tokens rs i h = ap (names_of_kids tokens) (readings-drop_all rs i h)

-- the name of a metavariable is its token's
pub names_at_variable : (tokens : List Token) (r : Reading) (i : ℕ) (t : Token) → r ≡ Var i → i < length tokens → t ≡ get_or tokens i t → reading_names tokens (plain_reading r) ≡ without_tilde t.text ∷ []
names_at_variable tokens r i t e h g =
    ap (λ x. reading_names tokens (plain_reading x)) e ∙ ap (λ x. without_tilde x ∷ []) (get_or-map (λ t. t.text) tokens i t [] h ∙ sym (ap (λ t. t.text) g))

-- there is room for the names of a kid, and then for those of the others
pub kid_room : (tokens : List Token) (rs : List Reading) (i : ℕ) (k : Reading) (n bound : ℕ) → i < length rs → k ≡ get_or rs i k → n + length (names_of_kids tokens (plain_readings (drop i rs))) < bound → n + length (reading_names tokens (plain_reading k)) < bound
kid_room tokens rs i k n bound h e room =
    omega (arith, ap length (names_step tokens rs i k h e), length-append (reading_names tokens (plain_reading k)) (names_of_kids tokens (plain_readings (drop (i + 1) rs))))

pub next_room : (tokens : List Token) (rs : List Reading) (i : ℕ) (k : Reading) (old new : List Text) (bound : ℕ) → i < length rs → k ≡ get_or rs i k → AddsEach old (reading_names tokens (plain_reading k)) new →
    length old + length (names_of_kids tokens (plain_readings (drop i rs))) < bound → length new + length (names_of_kids tokens (plain_readings (drop (i + 1) rs))) < bound
next_room tokens rs i k old new bound h e each room =
    omega (arith, each_long old (reading_names tokens (plain_reading k)) new each, ap length (names_step tokens rs i k h e), length-append (reading_names tokens (plain_reading k)) (names_of_kids tokens (plain_readings (drop (i + 1) rs))))

-- the names of a kid are added, and then those of the others
pub each_step : (tokens : List Token) (rs : List Reading) (i : ℕ) (k : Reading) (old now new : List Text) → i < length rs → k ≡ get_or rs i k → AddsEach old (reading_names tokens (plain_reading k)) now →
    AddsEach now (names_of_kids tokens (plain_readings (drop (i + 1) rs))) new → AddsEach old (names_of_kids tokens (plain_readings (drop i rs))) new
each_step tokens rs i k old now new h e a b =
    subst (λ names. AddsEach old names new) (sym (names_step tokens rs i k h e)) (each_append old now new (reading_names tokens (plain_reading k)) (names_of_kids tokens (plain_readings (drop (i + 1) rs))) a b)

pub front_step : (tokens : List Token) (rs : List Reading) (i : ℕ) (k : Reading) (old now new : List Text) → i < length rs → k ≡ get_or rs i k → AddsEach old (reading_names tokens (plain_reading k)) now →
    AddsFront now (names_of_kids tokens (plain_readings (drop (i + 1) rs))) new → AddsFront old (names_of_kids tokens (plain_readings (drop i rs))) new
front_step tokens rs i k old now new h e a b =
    subst (λ names. AddsFront old names new) (sym (names_step tokens rs i k h e)) (front_after old now new (reading_names tokens (plain_reading k)) (names_of_kids tokens (plain_readings (drop (i + 1) rs))) a b)

-- some names of a kid are added
pub front_within : (tokens : List Token) (rs : List Reading) (i : ℕ) (k : Reading) (old new : List Text) → i < length rs → k ≡ get_or rs i k → AddsFront old (reading_names tokens (plain_reading k)) new → AddsFront old (names_of_kids tokens (plain_readings (drop i rs))) new
front_within tokens rs i k old new h e a =
    subst (λ names. AddsFront old names new) (sym (names_step tokens rs i k h e)) (front_more old new (reading_names tokens (plain_reading k)) (names_of_kids tokens (plain_readings (drop (i + 1) rs))) a)
