-- Places of parts, one step on, and where a path leaves a term.
use Rattle.std.proofs.Common.{◌≡◌, ℕ, ◌+◌, ◌<◌, ◌≤◌, ◌↔◌, drop, map, length, get_or, List, [], ◌∷◌, Vec, Option, Some, None, option_and_then, option_map, slice_get, refl, ap, ◌∙◌, sym, subst}
use Rattle.std.proofs.lemmas.List.{at_drop_more, get_or-map, length-map}
use Rattle.std.proofs.lemmas.Option.{slice_get_past, slice_get_read, slice_get-map}
use Rattle.std.specs.declared.alloc.Global.{Global}
use Rattle.sx_term.specs.Tree as terms
use Rattle.sx_term.specs.Tree.{Tree, part_at}
use Rattle.sx_grammar.specs.Grammar as grammars
use Rattle.sx_grammar.specs.Grammar.{is_literal, is_lexeme, is_variable}
use Rattle.sx_grammar.specs.Reading as plain
use Rattle.sx_grammar.specs.Reading.{Readings, branch, bracket, leaf, variable, done, ◌▸◌}
use Rattle.sx_grammar.specs.Print.{term_of, terms_of, leaf_term, variable_term, mark_term}
use Rattle.sx_forest.specs.declared.reading.Reading.{Reading, Node, Node', Bracket', Lex, Var}
use Rattle.sx_forest.specs.declared.reading.Reading.TheBlock.{shown-the_row-Reading-0}
use Rattle.sx_forest.specs.declared.reading.Reading.TheBlock.{backs-Reading}
use Rattle.sx_forest.specs.Readings.{plain_reading}
use Rattle.sx_forest.specs.Places.{listed_readings, unbracketed, start_of, kid_readings, place_at}
use Rattle.sx_forest.specs.Places.{LeavesTogether}
use Rattle.sx_forest.proofs.Kids.{reading-at_node, listed_readings-row}

pub unbracketed-bare : (r : plain.Reading) → unbracketed (unbracketed r) ≡ unbracketed r
unbracketed-bare (branch label kids from to) = refl
unbracketed-bare (bracket inner from to) = unbracketed-bare inner
unbracketed-bare (leaf token) = refl
unbracketed-bare (variable token) = refl

-- brackets round the whole are left out
pub place_at-bare : (r : plain.Reading) (path : List ℕ) → place_at (unbracketed r) path ≡ place_at r path
place_at-bare r [] = ap (λ x. Some (start_of x)) (unbracketed-bare r)
place_at-bare r (i ∷ path) = ap (λ x. option_and_then (λ kid. place_at kid path) (slice_get (kid_readings x) i)) (unbracketed-bare r)

-- what has lost its brackets
pub bared : (here r : plain.Reading) → here ≡ unbracketed r → unbracketed here ≡ here
bared here r e = ap unbracketed e ∙ unbracketed-bare r ∙ sym e

pub place_at-bared : (here r : plain.Reading) (path : List ℕ) → here ≡ unbracketed r → place_at here path ≡ place_at r path
place_at-bared here r path e = ap (λ x. place_at x path) e ∙ place_at-bare r path

bare_no_bracket : (r x : plain.Reading) (from to : ℕ) → unbracketed r ≡ bracket x from to → ⊥
bare_no_bracket (branch label kids f t) x from to e = cc
bare_no_bracket (bracket inner f t) x from to e = bare_no_bracket inner x from to e
bare_no_bracket (leaf token) x from to e = cc
bare_no_bracket (variable token) x from to e = cc

-- what is no node and has no brackets round it has no kids
pub kids_of-leaf : (r : Reading) → ((label : ℕ) (kids : Vec Reading Global) (from to : ℕ) → r ≡ Node label kids from to → ⊥) → unbracketed (plain_reading r) ≡ plain_reading r → kid_readings (unbracketed (plain_reading r)) ≡ []
kids_of-leaf (Node' l s k f t) h b = absurd (h l (shown-the_row-Reading-0 s k) f t (sym (backs-Reading (Node' l s k f t))))
kids_of-leaf (Bracket' p inner f t) h b = absurd (bare_no_bracket (plain_reading inner) _ f t b)
kids_of-leaf (Lex t) h b = refl
kids_of-leaf (Var t) h b = refl

-- the kids of a node
pub kids_of-node : (r : Reading) (label : ℕ) (kids : Vec Reading Global) (from to : ℕ) → r ≡ Node label kids from to → kid_readings (unbracketed (plain_reading r)) ≡ map plain_reading kids.items
kids_of-node r label kids from to e = ap (λ x. kid_readings (unbracketed x)) (reading-at_node r label kids from to e) ∙ listed_readings-row (map plain_reading kids.items)

-- one step
place_at-step : (here : plain.Reading) (kids : List plain.Reading) (steps : List ℕ) (i : ℕ) → i < length steps → kid_readings (unbracketed here) ≡ kids → place_at here (drop i steps) ≡ option_and_then (λ kid. place_at kid (drop (i + 1) steps)) (slice_get kids (get_or steps i 0))
place_at-step here kids steps i h e =
    at_drop_more (place_at here) steps i 0 h ∙ ap (λ ks. option_and_then (λ kid. place_at kid (drop (i + 1) steps)) (slice_get ks (get_or steps i 0))) e

pub place_at-leaf : (here : Reading) (steps : List ℕ) (i : ℕ) → i < length steps → ((label : ℕ) (kids : Vec Reading Global) (from to : ℕ) → here ≡ Node label kids from to → ⊥) → unbracketed (plain_reading here) ≡ plain_reading here → place_at (plain_reading here) (drop i steps) ≡ None
place_at-leaf here steps i h n b = place_at-step (plain_reading here) [] steps i h (kids_of-leaf here n b)

pub place_at-past : (here : Reading) (label : ℕ) (kids : Vec Reading Global) (from to : ℕ) (rs : List Reading) (steps : List ℕ) (i : ℕ) → i < length steps → here ≡ Node label kids from to → rs ≡ kids.items → length rs ≤ get_or steps i 0 → place_at (plain_reading here) (drop i steps) ≡ None
place_at-past here label kids from to rs steps i h e s p =
    place_at-step (plain_reading here) _ steps i h (kids_of-node here label kids from to e)
    ∙ ap (option_and_then (λ kid. place_at kid (drop (i + 1) steps))) (ap (λ x. slice_get (map plain_reading x) (get_or steps i 0)) (sym s) ∙ slice_get_past (map plain_reading rs) _ (simp length-map p))

pub place_at-kid : (here : Reading) (label : ℕ) (kids : Vec Reading Global) (from to : ℕ) (rs : List Reading) (steps : List ℕ) (i : ℕ) (kid : Reading) → i < length steps → here ≡ Node label kids from to → rs ≡ kids.items → get_or steps i 0 < length rs → kid ≡ get_or rs (get_or steps i 0) kid → place_at (plain_reading here) (drop i steps) ≡ place_at (plain_reading kid) (drop (i + 1) steps)
place_at-kid here label kids from to rs steps i kid h e s p g =
    place_at-step (plain_reading here) _ steps i h (kids_of-node here label kids from to e)
    ∙ ap (option_and_then (λ kid. place_at kid (drop (i + 1) steps))) (ap (λ x. slice_get (map plain_reading x) (get_or steps i 0)) (sym s) ∙ slice_get_read (map plain_reading rs) (length rs) _ (plain_reading kid) (let e : length rs ≡ length (map plain_reading rs) = simp length-map in e) p (ap plain_reading g ∙ sym (get_or-map plain_reading rs (get_or steps i 0) kid (plain_reading kid) p)))

-- the term of what is no node has no kids
mark_kids : (mark : grammars.Mark) (text : List ℕ) → terms.kids_of (mark_term mark text) ≡ []
mark_kids is_literal text = refl
mark_kids (is_lexeme kind) text = refl
mark_kids (is_variable stem) text = refl

leaf_kids : (token : Option grammars.Token) → terms.kids_of (leaf_term token) ≡ []
leaf_kids None = refl
leaf_kids (Some token) = mark_kids token.mark token.text

variable_kids : (names : List (List ℕ)) (token : Option grammars.Token) → terms.kids_of (variable_term names token) ≡ []
variable_kids names None = refl
variable_kids names (Some token) = refl

listed_terms : (tokens : List grammars.Token) (names : List (List ℕ)) (kids : Readings) → terms.listed (terms_of tokens names kids) ≡ map (term_of tokens names) (listed_readings kids)
listed_terms tokens names done = refl
listed_terms tokens names (kid ▸ kids) = ap (λ ts. term_of tokens names kid ∷ ts) (listed_terms tokens names kids)

-- the parts of the term are the terms of the kids
term_kids : (tokens : List grammars.Token) (names : List (List ℕ)) (r : plain.Reading) → terms.kids_of (term_of tokens names r) ≡ map (term_of tokens names) (kid_readings (unbracketed r))
term_kids tokens names (branch label kids from to) = listed_terms tokens names kids
term_kids tokens names (bracket inner from to) = term_kids tokens names inner
term_kids tokens names (leaf token) = leaf_kids (slice_get tokens token)
term_kids tokens names (variable token) = variable_kids names (slice_get tokens token)

step_together : {A B : Type 0} (f : A → B) (p : A → Option ℕ) (q : B → Option B) (o : Option A) → ((a : A) → (p a ≡ None) ↔ (q (f a) ≡ None)) → (option_and_then p o ≡ None) ↔ (option_and_then q (option_map f o) ≡ None)
step_together f p q None h = (λ e. refl, λ e. refl)
step_together f p q (Some a) h = h a

pub leaves_together : LeavesTogether
leaves_together tokens names r [] = (λ e. cc, λ e. cc)
leaves_together tokens names r (i ∷ path) =
    let f = term_of tokens names in
    let both = step_together f (λ kid. place_at kid path) (λ t. part_at t path) (slice_get (kid_readings (unbracketed r)) i) (λ kid. leaves_together tokens names kid path) in
    let is : slice_get (terms.kids_of (f r)) i ≡ option_map f (slice_get (kid_readings (unbracketed r)) i) = ap (λ ts. slice_get ts i) (term_kids tokens names r) ∙ slice_get-map f (kid_readings (unbracketed r)) i in
    subst (λ o. (place_at r (i ∷ path) ≡ None) ↔ (option_and_then (λ t. part_at t path) o ≡ None)) (sym is) both
