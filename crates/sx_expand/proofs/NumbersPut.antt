-- Plain images that are put by number, one variable after another.
use Rattle.std.proofs.Common.{◌≡◌, arith, ℕ, zero, suc, ◌+◌, ◌<◌, ◌≤◌, take, get_or, length, List, [], ◌∷◌, ◌++◌, map, refl, sym, ap, ◌∙◌, subst}
use Rattle.sx_term.specs.declared.sort.Sort.{Sort}
use Rattle.sx_term.specs.declared.sort.Sort.TheVariants.{Typed}
use Rattle.sx_term.specs.Tree.{Tree, node, none, depth_of, forest}
use Rattle.sx_rules.specs.Deep.{AreShallow}
use Rattle.sx_plain.specs.declared.measure.Measure.{Measure}
use Rattle.sx_plain.specs.Plain.{Table}
use Rattle.sx_plain.specs.Tables.{FitsTable, FitTable}
use Rattle.sx_arena.specs.declared.arena.Arena.{Arena}
use Rattle.sx_arena.specs.Arena.{trees, tree_at, AreBelow, Extends, IsArena, IsHeld}
use Rattle.sx_images.proofs.Known.{images_stay_known}
use Rattle.sx_arena.proofs.Arenas.{maps_same, below_more}
use Rattle.sx_arena.proofs.Growing.{extends-then, extends-length, extends-at, extends-same}
use Rattle.sx_rewrite.specs.Puts.{AreMeasuresOf, AreMadeOf}
use Rattle.sx_rewrite.specs.PutImages.{image_for, images_for}
use Rattle.sx_rewrite.proofs.Instanced.{greatest-both, measures-both}
use Rattle.sx_expand.specs.declared.put_number.PutNumber.{PutNumber}
use Rattle.sx_expand.specs.declared.reader.Reader.{Reader}
use Rattle.sx_expand.specs.Put.{IsPutAt, ArePutAt}
use Rattle.sx_expand.specs.Readers.{terms_in, IsLoweringReader, ReaderGoesOn}

made-both : (ts us xs ys : List Tree) → AreMadeOf ts us → AreMadeOf xs ys → AreMadeOf (ts ++ xs) (us ++ ys)
made-both [] [] xs ys h k = k
made-both [] (u ∷ us) xs ys h k = absurd h
made-both (t ∷ ts) [] xs ys h k = absurd h
made-both (t ∷ ts) (u ∷ us) xs ys h k = (h.0, made-both ts us xs ys h.1 k)

pub below-both : (n : ℕ) (is : List ℕ) (i : ℕ) → AreBelow n is → i < n → AreBelow n (is ++ i ∷ [])
below-both n [] i h l = (l, tt)
below-both n (j ∷ is) i h l = (h.0, below-both n is i h.1 l)

pub maps-both : (f : ℕ → Tree) (is : List ℕ) (i : ℕ) → map f (is ++ i ∷ []) ≡ map f is ++ f i ∷ []
maps-both f [] i = refl
maps-both f (j ∷ is) i = ap (λ (ts : List Tree). f j ∷ ts) (maps-both f is i)

images-to : (table : Table) (sorts : List Sort) (f : ℕ → Tree) (ns : List ℕ) (i : ℕ) (sort : Sort) (n d : ℕ) → length ns ≡ length sorts → i < length ns → sort ≡ get_or sorts i sort → n ≡ get_or ns i d →
    take (i + 1) (images_for table sorts (map f ns)) ≡ take i (images_for table sorts (map f ns)) ++ image_for table sort (f n) ∷ []
images-to table [] f [] i sort n d m l e g = absurd (omega (arith, l))
images-to table [] f (x ∷ ns) i sort n d m l e g = absurd (omega (arith, m))
images-to table (s ∷ sorts) f [] i sort n d m l e g = absurd (omega (arith, l))
images-to table (s ∷ sorts) f (x ∷ ns) zero sort n d m l e g =
    let a = ap (λ (y : Sort). image_for table y (f x) ∷ []) e in
    let b = ap (λ (y : ℕ). image_for table sort (f y) ∷ []) g in sym (b ∙ a)
images-to table (s ∷ sorts) f (x ∷ ns) (suc i) sort n d m l e g =
    let q : suc i + 1 ≡ suc (i + 1) = omega arith in
    rw q (ap (λ (us : List Tree). image_for table s (f x) ∷ us) (images-to table sorts f ns i sort n d (omega (arith, m)) (omega (arith, l)) e g))

images-all : (table : Table) (sorts : List Sort) (ts : List Tree) (i : ℕ) → length ts ≤ i → take i (images_for table sorts ts) ≡ images_for table sorts ts
images-all table [] ts zero l = refl
images-all table [] ts (suc i) l = refl
images-all table (s ∷ sorts) [] zero l = refl
images-all table (s ∷ sorts) [] (suc i) l = refl
images-all table (s ∷ sorts) (x ∷ ts) zero l = absurd (omega (arith, l))
images-all table (s ∷ sorts) (x ∷ ts) (suc i) l = ap (λ (us : List Tree). image_for table s x ∷ us) (images-all table sorts ts i (omega (arith, l)))

length-map : (f : ℕ → Tree) (ns : List ℕ) → length (map f ns) ≡ length ns
length-map f [] = refl
length-map f (n ∷ ns) = let h = length-map f ns in omega (arith, h)

pub shallow-at : (f : ℕ → Tree) (ns : List ℕ) (i n : ℕ) → AreShallow (map f ns) → i < length ns → n ≡ get_or ns i 0 → depth_of (f n) ≤ 1000
shallow-at f [] i n h l e = absurd (omega (arith, l))
shallow-at f (x ∷ ns) zero n h l e = subst (λ (y : ℕ). depth_of (f y) ≤ 1000) (sym e) h.0
shallow-at f (x ∷ ns) (suc i) n h l e = shallow-at f ns i n h.1 (omega (arith, l)) e

pub fits-at : (table : Table) (f : ℕ → Tree) (ns : List ℕ) (i n : ℕ) → FitTable table (forest (map f ns)) → i < length ns → n ≡ get_or ns i 0 → FitsTable table (f n)
fits-at table f [] i n h l e = absurd (omega (arith, l))
fits-at table f (x ∷ ns) zero n h l e = subst (λ (y : ℕ). FitsTable table (f y)) (sym e) h.0
fits-at table f (x ∷ ns) (suc i) n h l e = fits-at table f ns i n h.1 (omega (arith, l)) e

pub below-at : (m : ℕ) (ns : List ℕ) (i n : ℕ) → AreBelow m ns → i < length ns → n ≡ get_or ns i 0 → n < m
below-at m [] i n h l e = absurd (omega (arith, l))
below-at m (x ∷ ns) zero n h l e = subst (λ (y : ℕ). y < m) (sym e) h.0
below-at m (x ∷ ns) (suc i) n h l e = below-at m ns i n h.1 (omega (arith, l)) e

-- the images up to a place are put
pub record NumbersSoFar (table : Table) (sorts : List Sort) (start now : Reader) (binds : List ℕ) (i : ℕ) (ns : List ℕ) (ms : List Measure) : Type 0 where
  pub on : ReaderGoesOn table start now
  pub put : ArePutAt (terms_in now) (take i (images_for table sorts (map (tree_at (terms_in start)) binds))) ns ms

pub no-numbers : (table : Table) (sorts : List Sort) (start : Reader) (binds : List ℕ) (ns : List ℕ) (ms : List Measure) → IsLoweringReader table start → ns ≡ [] → ms ≡ [] → NumbersSoFar table sorts start start binds 0 ns ms
no-numbers table sorts start binds ns ms r e f =
    subst (λ (x : List ℕ). NumbersSoFar table sorts start start binds 0 x ms) (sym e)
    (subst (λ (x : List Measure). NumbersSoFar table sorts start start binds 0 [] x) (sym f)
    (record {
      on = record { reader = r; extends = extends-same (terms_in start) };
      put = record { below = tt; measured = tt; made = tt; low = omega arith };
    }))

module _ (table : Table) (sorts : List Sort) (start now : Reader) (binds : List ℕ) (i : ℕ) (ns : List ℕ) (ms : List Measure) (so : NumbersSoFar table sorts start now binds i ns ms) where
  module _ (below : AreBelow (length (terms_in start)) binds) (n : ℕ) (l : i < length binds) (at : n ≡ get_or binds i 0) where
    -- the term that is bound is still there
    pub bound-within : n < length (terms_in now)
    bound-within = let a = below-at (length (terms_in start)) binds i n below l at in let b = extends-length (terms_in start) (terms_in now) so.on.extends in omega (arith, a, b)

    pub bound-is : tree_at (terms_in now) n ≡ tree_at (terms_in start) n
    bound-is = extends-at (terms_in start) (terms_in now) so.on.extends n _ (below-at (length (terms_in start)) binds i n below l at)

    pub numbers-step : (next : Reader) (sort : Sort) (p : PutNumber) → length binds ≡ length sorts → sort ≡ get_or sorts i sort → ReaderGoesOn table now next →
        IsPutAt (terms_in next) (image_for table sort (tree_at (terms_in now) n)) p →
        NumbersSoFar table sorts start next binds (i + 1) (ns ++ p.number ∷ []) (ms ++ p.measure ∷ [])
    numbers-step next sort p many e on is =
        let all = images_for table sorts (map (tree_at (terms_in start)) binds) in
        let here = image_for table sort (tree_at (terms_in start) n) in
        let to = sym (images-to table sorts (tree_at (terms_in start)) binds i sort n 0 many l e at) in
        let is' = subst (λ (t : Tree). IsPutAt (terms_in next) (image_for table sort t) p) bound-is is in
        let made' = subst (λ (us : List Tree). AreMadeOf (take i all) us) (sym (maps_same (terms_in now) (terms_in next) on.extends ns so.put.below)) so.put.made in
        record {
          on = record { reader = on.reader; extends = extends-then (terms_in start) (terms_in now) (terms_in next) so.on.extends on.extends };
          put = record {
            below = below-both (length (terms_in next)) ns p.number (below_more (length (terms_in now)) (length (terms_in next)) (extends-length (terms_in now) (terms_in next) on.extends) ns so.put.below) is'.within;
            measured = subst (λ (us : List Tree). AreMeasuresOf us (ms ++ p.measure ∷ [])) to (measures-both (take i all) (here ∷ []) ms (p.measure ∷ []) so.put.measured (is'.measured, tt));
            made = subst (λ (us : List Tree). AreMadeOf us (map (tree_at (terms_in next)) (ns ++ p.number ∷ []))) to
                (subst (λ (us : List Tree). AreMadeOf (take i all ++ here ∷ []) us) (sym (maps-both (tree_at (terms_in next)) ns p.number))
                (made-both (take i all) (map (tree_at (terms_in next)) ns) (here ∷ []) (tree_at (terms_in next) p.number ∷ []) made' (is'.made, tt)));
            low = greatest-both ms p.measure 1001000 so.put.low is'.low;
          };
        }

  pub numbers-end : length binds ≤ i → ReaderGoesOn table start now × ArePutAt (terms_in now) (images_for table sorts (map (tree_at (terms_in start)) binds)) ns ms
  numbers-end l =
      let e = images-all table sorts (map (tree_at (terms_in start)) binds) i (let m = length-map (tree_at (terms_in start)) binds in omega (arith, l, m)) in
      (so.on, subst (λ (us : List Tree). ArePutAt (terms_in now) us ns ms) e so.put)

-- what is known of a reader stays where terms are put into its arena
pub arena-grows : (table : Table) (old : Reader) (arena : Arena) → IsLoweringReader table old → IsArena arena → Extends (terms_in old) (trees arena) → ReaderGoesOn table old (record { arena = arena; images = old.images })
arena-grows table old arena r a x = record {
  reader = record { arena = a; images = images_stay_known table (terms_in old) (trees arena) old.images x r.images };
  extends = x;
}

-- a node without kids is put
pub blank-put : (table : Table) (sort : Sort) (k : ℕ) (t : Tree) (old : Reader) (arena : Arena) (i : ℕ) (kids : List ℕ) → sort ≡ Typed k → kids ≡ [] → IsLoweringReader table old →
    IsHeld old.arena arena i (node 0 (forest (map (tree_at (terms_in old)) kids))) →
    ReaderGoesOn table old (record { arena = arena; images = old.images }) × IsPutAt (trees arena) (image_for table sort t) (record { number = i; measure = record { depth = 1; size = 1 } })
blank-put table sort k t old arena i kids e f r h =
    let blank = ap (λ (is : List ℕ). node 0 (forest (map (tree_at (terms_in old)) is))) f in
    let put : IsPutAt (trees arena) (node 0 none) (record { number = i; measure = record { depth = 1; size = 1 } }) =
    record { within = h.within; measured = (refl, refl); made = λ s. h.is ∙ blank; low = omega arith } in
    (arena-grows table old arena r h.arena h.extends, subst (λ (x : Sort). IsPutAt (trees arena) (image_for table x t) (record { number = i; measure = record { depth = 1; size = 1 } })) (sym e) put)
