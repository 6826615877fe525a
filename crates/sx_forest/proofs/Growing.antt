-- How the kids of a span grow.
use Rattle.std.proofs.Common.{◌≡◌, ℕ, suc, ◌<◌, ◌≤◌, List, [], ◌∷◌, ◌++◌, sym, subst, ap, ◌∙◌, length, arith}
use Rattle.std.proofs.lemmas.List.{length-map}
use Rattle.std.proofs.lemmas.Option.{same_Some}
use Rattle.sx_term.specs.declared.lex_kind.LexKind.{LexKind}
use Rattle.sx_grammar.specs.Grammar.{lexical}
use Rattle.sx_grammar.specs.declared.head.Head.{Head}
use Rattle.sx_grammar.specs.Reading as plain
use Rattle.sx_grammar.specs.Reading.{Readings, done, ◌▸◌, ReadsAll}
use Rattle.sx_grammar.specs.Items.{ReadsToken}
use Rattle.sx_grammar.specs.Tally.{IsLeafAt}
use Rattle.sx_earley.specs.Shown.{literal_texts, token_of}
use Rattle.sx_forest.specs.declared.entry.Entry.{Entry}
use Rattle.sx_forest.specs.declared.entry.Maker.{Maker}
use Rattle.sx_forest.specs.declared.entry.Maker.TheVariants.{By}
use Rattle.sx_forest.specs.declared.forest.Forest.{Forest}
use Rattle.sx_forest.specs.declared.opened.Opened.{Opened}
use Rattle.sx_forest.specs.declared.reading.Reading.{Reading}
use Rattle.sx_forest.specs.declared.step.Step.{Step}
use Rattle.sx_forest.specs.declared.step.Step.TheVariants as steps
use Rattle.sx_forest.specs.Readings.{plain_reading, plain_readings}
use Rattle.sx_forest.specs.Tallies.{tally_of}
use Rattle.sx_forest.specs.Forests.{grammar_in, tokens_in, lists_in, symbols_of, depth_in, IsForest}
use Rattle.sx_forest.specs.Forests.{IsShallowEntry, IsOpened, IsAt, IsReadTo, IsItemStep, IsBy}
use Rattle.sx_forest.specs.Forests.{HasKids, IsReadingMade, end_of, followed}
use Rattle.sx_forest.proofs.Following.{one_more_kid, followed_none, followed_twice}
use Rattle.sx_forest.proofs.Making.{are_kids, made_reads}
use Rattle.sx_forest.proofs.Rows.{item_within}
use Rattle.sx_forest.proofs.Stepwise.{part_of, kid_shallow, kid_depth, read_literal, read_token, read_part, none_read, all_is_read, kids_of_all}

-- some more are behind the old ones
abbrev pub Behind : (old new : List Reading) → Type 0
Behind old new = (more : Readings) × (plain_readings new ≡ followed (plain_readings old) more)

pub none_behind : (old : List Reading) → Behind old old
none_behind old = (done, sym (followed_none (plain_readings old)))

pub one_behind : (old new : List Reading) (x : Reading) → new ≡ old ++ x ∷ [] → Behind old new
one_behind old new x e = (plain_reading x ▸ done, one_more_kid old new x e)

pub twice_behind : (old middle new : List Reading) → Behind old middle → Behind middle new → Behind old new
twice_behind old middle new a b = (followed a.0 b.0, b.1 ∙ (ap (λ k. followed k b.0) a.1 ∙ followed_twice (plain_readings old) a.0 b.0))

module _ (f : Forest) (forest : IsForest f) (o : Opened) (opened : IsOpened (grammar_in f) (tokens_in f) f.start (lists_in f) o) where
  -- a place that is reached is among the tokens
  pub place_low : (dot place : ℕ) → IsAt (grammar_in f) (tokens_in f) f.start o dot place → place ≤ 10000
  place_low dot place at =
      let w = item_within (grammar_in f) (tokens_in f) f.start at.item in
      let l : length (tokens_in f) ≡ length f.shown.now = length-map f.shown.now (token_of (literal_texts f.grammar.now)) in
      let s = forest.short in
      omega arith

  pub entry_shallow : (dot place index : ℕ) (e : Entry) (kids : Readings) → IsReadTo (grammar_in f) (tokens_in f) f.start o dot place kids →
      IsItemStep (grammar_in f) (tokens_in f) f.start (lists_in f) o dot place (steps.Part index e) → IsShallowEntry (grammar_in f) (tokens_in f) f.start place e
  entry_shallow dot place index e kids so step =
      let h = part_of (grammar_in f) (tokens_in f) f.start forest.levels forest.ranked.0 forest.ranked.1 (lists_in f) forest.full o opened dot place index e step in
      kid_shallow (grammar_in f) (tokens_in f) f.start forest.levels forest.ranked.0 forest.ranked.1 (lists_in f) forest.full o opened dot place h.sort h.least index e kids h.symbol so h.first.1 h.first.2

  pub entry_less : (dot place index : ℕ) (e : Entry) (kids : Readings) → IsReadTo (grammar_in f) (tokens_in f) f.start o dot place kids →
      IsItemStep (grammar_in f) (tokens_in f) f.start (lists_in f) o dot place (steps.Part index e) → depth_in (tally_of e.ways) < depth_in (tally_of o.ways)
  entry_less dot place index e kids so step =
      let h = part_of (grammar_in f) (tokens_in f) f.start forest.levels forest.ranked.0 forest.ranked.1 (lists_in f) forest.full o opened dot place index e step in
      kid_depth (grammar_in f) (tokens_in f) f.start forest.levels forest.ranked.0 forest.ranked.1 (lists_in f) forest.full o opened dot place h.sort h.least index e kids h.symbol so h.first.1 h.first.2

  pub over_literal : (dot place : ℕ) (step : Step) (kids : Readings) → step ≡ steps.Literal → IsReadTo (grammar_in f) (tokens_in f) f.start o dot place kids →
      IsItemStep (grammar_in f) (tokens_in f) f.start (lists_in f) o dot place step → IsReadTo (grammar_in f) (tokens_in f) f.start o (suc dot) (end_of step place) kids
  over_literal dot place step kids e so is =
      rw e (read_literal (grammar_in f) (tokens_in f) f.start forest.levels forest.ranked.0 forest.ranked.1 (lists_in f) forest.full o opened dot place kids so
      (subst (λ s. IsItemStep (grammar_in f) (tokens_in f) f.start (lists_in f) o dot place s) e is))

  pub over_token : (dot place : ℕ) (step : Step) (kids new : List Reading) (r : Reading) → step ≡ steps.Token → IsReadTo (grammar_in f) (tokens_in f) f.start o dot place (plain_readings kids) →
      IsItemStep (grammar_in f) (tokens_in f) f.start (lists_in f) o dot place step →
      ((kind : LexKind) → ReadsToken (tokens_in f) (lexical kind) place → IsLeafAt (tokens_in f) kind place (plain_reading r)) → new ≡ kids ++ r ∷ [] →
      IsReadTo (grammar_in f) (tokens_in f) f.start o (suc dot) (end_of step place) (plain_readings new)
  over_token dot place step kids new r e so is leaf more =
      rw e (read_token (grammar_in f) (tokens_in f) f.start forest.levels forest.ranked.0 forest.ranked.1 (lists_in f) forest.full o opened dot place (plain_readings kids) (plain_readings new) (plain_reading r) so
      (subst (λ s. IsItemStep (grammar_in f) (tokens_in f) f.start (lists_in f) o dot place s) e is) leaf (one_more_kid kids new r more))

  pub over_part : (dot place index : ℕ) (x : Entry) (step : Step) (kids new : List Reading) (r : Reading) → step ≡ steps.Part index x → IsReadTo (grammar_in f) (tokens_in f) f.start o dot place (plain_readings kids) →
      IsItemStep (grammar_in f) (tokens_in f) f.start (lists_in f) o dot place step → IsBy (grammar_in f) (tokens_in f) x.maker place x.to (plain_reading r) → new ≡ kids ++ r ∷ [] →
      IsReadTo (grammar_in f) (tokens_in f) f.start o (suc dot) (end_of step place) (plain_readings new)
  over_part dot place index x step kids new r e so is by more =
      let h = part_of (grammar_in f) (tokens_in f) f.start forest.levels forest.ranked.0 forest.ranked.1 (lists_in f) forest.full o opened dot place index x
      (subst (λ s. IsItemStep (grammar_in f) (tokens_in f) f.start (lists_in f) o dot place s) e is) in
      rw e (read_part (grammar_in f) (tokens_in f) f.start forest.levels forest.ranked.0 forest.ranked.1 (lists_in f) forest.full o opened dot place h.sort h.least index x (plain_readings kids) (plain_readings new) (plain_reading r)
      h.symbol so h.first.1 h.first.2 by (one_more_kid kids new r more))

  pub begun : IsReadTo (grammar_in f) (tokens_in f) f.start o 0 o.from done
  begun = none_read (grammar_in f) (tokens_in f) f.start forest.levels forest.ranked.0 forest.ranked.1 (lists_in f) forest.full o opened

  pub finished : (dot place : ℕ) (kids : Readings) → dot ≡ length (symbols_of (grammar_in f) o.head) → IsReadTo (grammar_in f) (tokens_in f) f.start o dot place kids →
      ReadsAll (grammar_in f) (tokens_in f) (symbols_of (grammar_in f) o.head) o.from o.to kids
  finished dot place kids end so =
      all_is_read (grammar_in f) (tokens_in f) f.start forest.levels forest.ranked.0 forest.ranked.1 (lists_in f) forest.full o opened place kids
      (subst (λ d. IsReadTo (grammar_in f) (tokens_in f) f.start o d place kids) end so)

  pub kids_are : (kids : Readings) → ReadsAll (grammar_in f) (tokens_in f) (symbols_of (grammar_in f) o.head) o.from o.to kids → HasKids o.head kids
  kids_are kids all =
      are_kids (grammar_in f) (tokens_in f) o.head opened.sound.0.1.0 o.from o.to kids opened.sound.0.1.1
      (kids_of_all (grammar_in f) (tokens_in f) f.start forest.levels forest.ranked.0 forest.ranked.1 (lists_in f) forest.full o opened kids all)

  -- what is made of all kids is by the head
  pub made_by : (kids : Readings) (r : plain.Reading) → ReadsAll (grammar_in f) (tokens_in f) (symbols_of (grammar_in f) o.head) o.from o.to kids → IsReadingMade o.head kids o.from o.to r →
      IsBy (grammar_in f) (tokens_in f) (By o.head) o.from o.to r
  made_by kids r all made = λ sort makes.
      let p = opened.sound.0.1.0 in
      let e = opened.sound.0.1.1 in
      let reads = made_reads (grammar_in f) (tokens_in f) o.head p o.from o.to kids r e
      (kids_of_all (grammar_in f) (tokens_in f) f.start forest.levels forest.ranked.0 forest.ranked.1 (lists_in f) forest.full o opened kids all) made in
      let same : makes.production ≡ p = same_Some makes.production p (sym makes.is ∙ e) in
      let sort_is : p.sort ≡ sort = ap (λ q. q.sort) (sym same) ∙ makes.same_sort in
      subst (λ s. plain.ReadsBy (grammar_in f) (tokens_in f) o.head s o.from o.to r) sort_is reads

  -- the same for a head and places that are those of the span
  pub made_as : (head : Head) (from to : ℕ) (maker : Maker) → o.head ≡ head → o.from ≡ from → o.to ≡ to → maker ≡ By head → (kids : Readings) (r : plain.Reading) →
      ReadsAll (grammar_in f) (tokens_in f) (symbols_of (grammar_in f) o.head) o.from o.to kids → IsReadingMade head kids from to r → IsBy (grammar_in f) (tokens_in f) maker from to r
  made_as head from to maker h a b m kids r all made =
      let made1 : IsReadingMade o.head kids from to r = subst (λ x. IsReadingMade x kids from to r) (sym h) made in
      let made2 : IsReadingMade o.head kids o.from to r = subst (λ x. IsReadingMade o.head kids x to r) (sym a) made1 in
      let made3 : IsReadingMade o.head kids o.from o.to r = subst (λ x. IsReadingMade o.head kids o.from x r) (sym b) made2 in
      let by : IsBy (grammar_in f) (tokens_in f) (By o.head) o.from o.to r = made_by kids r all made3 in
      let by1 : IsBy (grammar_in f) (tokens_in f) (By head) o.from o.to r = subst (λ x. IsBy (grammar_in f) (tokens_in f) (By x) o.from o.to r) h by in
      let by2 : IsBy (grammar_in f) (tokens_in f) (By head) from o.to r = subst (λ x. IsBy (grammar_in f) (tokens_in f) (By head) x o.to r) a by1 in
      let by3 : IsBy (grammar_in f) (tokens_in f) (By head) from to r = subst (λ x. IsBy (grammar_in f) (tokens_in f) (By head) from x r) b by2 in
      subst (λ x. IsBy (grammar_in f) (tokens_in f) x from to r) (sym m) by3
