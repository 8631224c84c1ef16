-- Each step keeps the rule, and tells its seat what it says.
use Rattle.std.proofs.Common.{◌≡◌, ◌≢◌, ◌⊎◌, ℕ, zero, suc, ◌<◌, ◌≤◌, List, [], ◌∷◌, ◌++◌, length, get_or, set, max, eqb, inl, inr, ⊎_elim, refl, sym, ap, ◌∙◌, subst, arith, length-set}
use Rattle.std.specs.Prelude.{Option, Some, None}
use mathlib.Core.Logic.{dite}
use mathlib.Core.Option.{some, none, some-injective, some-ne-none}
use mathlib.Core.List.{IsPrefix}
use native.Mathlib.Decide.{ℕ_discrete}
use lib.ListN.{get_elem?}
use lib.Seq.{set-get_or}
use prog.Atomic.{either}
use Rattle.atomic_table.specs.Table.{State, Me, step, keeps, takes, gives, stepped, Allows, Splits, Joins, opening, Final, Seen}
use Rattle.atomic_table.proofs.Lists.{at_set, set_else as else_at, at_longer, exchanged}
use Rattle.f2_seat_lock.specs.declared.view.View.{View}
use Rattle.f2_seat_lock.specs.Map.{part_of}
use Rattle.f2_seat_lock.specs.Rule.{spent, split_left, split_right, next_of, join_both, settled, holding, telling, HasOwn, Apart, IsLevel, raised, first_view, Fits, Alone, Kept}
use Rattle.f2_seat_lock.specs.Turn.{Moves}
use Rattle.f2_seat_lock.specs.Plays.{took, raised_to, gave, told, settles}
use Rattle.f2_seat_lock.proofs.Maps.{some_same, none_some, in_range, set_cases, set_here, without_cases, only_cases, together_cases, all_parts_cases, length-all_parts, length-only, length-together}
use Rattle.f2_seat_lock.proofs.Logs.{begins_itself, begins_further, in_line}

-- an exchange that looks for a free turn leaves none
pub never_free : (n : ℕ) → either (eqb n 0) 1 n ≢ 0
never_free n = exchanged n 0 1 (λ m. m ≢ 0) (λ _ e. omega arith) (λ ne. ne)

-- nor does one that says that others may wait
pub waited_for : (n : ℕ) → (let two : ℕ = 2 in two) ≢ 0
waited_for n e = omega arith

-- a fact of the one place of a list
pub at_first : {B : Type 0} (F : ℕ → B → Type 0) {a : B} → F 0 a → (j : ℕ) (b : B) → get_elem? (a ∷ []) j ≡ some b → F j b
at_first F {a} here zero b e = subst (F 0) (some-injective a b e) here
at_first F {a} here (suc j) b e = absurd (some-ne-none b (sym e))

module _ {A : Type 0} where
  -- a fact of each place, where one place changes
  pub each_set : (F : ℕ → A → Type 0) (l : List A) (i : ℕ) (a : A) → ((j : ℕ) (b : A) → j ≢ i → get_elem? l j ≡ some b → F j b) → F i a → (j : ℕ) (b : A) → get_elem? (set l i a) j ≡ some b → F j b
  each_set F l i a others here j b e =
      ⊎_elim
      (λ (t : (j ≡ i) × (a ≡ b)). subst (λ (x : ℕ × A). F x.0 x.1) (λ k. (sym t.0 k, t.1 k)) here)
      (λ (t : (j ≢ i) × (get_elem? l j ≡ some b)). others j b t.0 t.1)
      (at_set l i j a b e)

  pub there_set : (l : List A) (i : ℕ) (a b : A) → get_elem? l i ≡ some a → get_elem? (set l i b) i ≡ some b
  there_set [] i a b e = absurd (some-ne-none a (sym e))
  there_set (x ∷ xs) zero a b e = refl
  there_set (x ∷ xs) (suc i) a b e = there_set xs i a b e

  pub at_push : (l : List A) (a b : A) (j : ℕ) → get_elem? (l ++ a ∷ []) j ≡ some b → (get_elem? l j ≡ some b) ⊎ ((j ≡ length l) × (a ≡ b))
  at_push [] a b zero e = inr (refl, some-injective a b e)
  at_push [] a b (suc j) e = absurd (some-ne-none b (sym e))
  at_push (x ∷ xs) a b zero e = inl e
  at_push (x ∷ xs) a b (suc j) e = ⊎_elim (λ h. inl h) (λ t. inr (ap suc t.0, t.1)) (at_push xs a b j e)

  pub before_end : (l : List A) (j : ℕ) (b : A) → get_elem? l j ≡ some b → j < length l
  before_end [] j b e = absurd (some-ne-none b (sym e))
  before_end (x ∷ xs) zero b e = omega arith
  before_end (x ∷ xs) (suc j) b e = let h = before_end xs j b e in omega arith

module _ {S P E : Type 0} where
  -- where a view at its place has no part that it did not have, no part stands in two views
  pub apart_set : (views : List (View S P E)) (id : ℕ) (v w : View S P E) → get_elem? views id ≡ some v → ((k : ℕ) (p : P) → part_of w.parts k ≡ Some p → (q : P) × (part_of v.parts k ≡ Some q)) → Apart views → Apart (set views id w)
  apart_set views id v w at less apart i j k u x p q ui xj up xq =
      let old : (i : ℕ) (u : View S P E) → get_elem? (set views id w) i ≡ some u → (p : P) → part_of u.parts k ≡ Some p → (y : View S P E) × (q : P) × (get_elem? views i ≡ some y) × (part_of y.parts k ≡ Some q) =
      each_set (λ i u. (p : P) → part_of u.parts k ≡ Some p → (y : View S P E) × (q : P) × (get_elem? views i ≡ some y) × (part_of y.parts k ≡ Some q)) views id w
      (λ i u _ e p h. (u, p, e, h))
      (λ p h. let t = less k p h in (v, t.0, at, t.1)) in
      let a = old i u ui p up in let b = old j x xj q xq in
      apart i j k a.0 b.0 a.1 b.1 a.2 b.2 a.3 b.3

  pub level_set : (seats : ℕ) (views : List (View S P E)) (id : ℕ) (v w : View S P E) → get_elem? views id ≡ some v → ((k : ℕ) (p : P) → part_of w.parts k ≡ Some p → (q : P) × (part_of v.parts k ≡ Some q)) → length w.parts ≡ length v.parts → IsLevel seats views → IsLevel seats (set views id w)
  level_set seats views id v w at less long level j k u p uj up =
      each_set (λ j u. (p : P) → part_of u.parts k ≡ Some p → length u.parts ≡ seats) views id w (λ j u _ e p h. level j k u p e h) (λ p h. let t = less k p h in long ∙ level id k v t.0 at t.1) j u uj p up

module _ {S P E : Type 0} (log : S → List E) (part : S → ℕ → P) (marks : List E → ℕ) where
  abbrev W : Type 0
  W = View S P E

  abbrev St : Type 0
  St = State S W

  abbrev M : Type 0
  M = Me S W

  abbrev Rule : St → Type 0
  Rule = Kept log part marks

  abbrev Fit : S → W → Type 0
  Fit = Fits log part marks

  -- the view of a seat changes, and neither its parts nor what it holds; the value stays, and whether the turn is free
  stays : (s : St) (r : Rule s) (ws : List ℕ) (turn id : ℕ) (v w : W) → get_elem? s.views id ≡ some v → ws ≡ turn ∷ marks (log r.value) ∷ [] → (turn ≡ 0 → r.turn ≡ 0) → (r.turn ≡ 0 → turn ≡ 0)
      → w.seat ≡ v.seat → w.parts ≡ v.parts → w.holds ≡ v.holds → Fit r.value w → Rule record { words = ws; homes = s.homes; views = set s.views id w }
  stays s r ws turn id v w at words free taken seat parts holds fits =
      let moved : (holder j : ℕ) → Alone r.value r.turn holder j v → Alone r.value turn holder j w =
      λ holder j a. record {
        taken = λ z. a.taken (free z);
        is_holder = a.is_holder;
        copy = holds ∙ a.copy;
        own = (a.own.0, ap (λ (x : List (Option P) × ℕ). part_of x.0 x.1) (λ i. (parts i, seat i)) ∙ a.own.1);
      } in
      let same : (holder j : ℕ) (u : W) → Alone r.value r.turn holder j u → Alone r.value turn holder j u =
      λ holder j u a. record { taken = λ z. a.taken (free z); is_holder = a.is_holder; copy = a.copy; own = a.own } in
      record {
        value = r.value;
        turn = turn;
        holder = r.holder;
        seats = r.seats;
        words = words;
        home = λ z. r.home (free z);
        away = λ n. let a = r.away (λ z. n (taken z)) in (
          a.0,
          dite (ℕ_discrete r.holder id)
              (λ e. (
                w,
                ap (λ h. get_elem? (set s.views id w) h) e ∙ there_set s.views id v w at,
                moved r.holder r.holder (subst (λ (u : W). Alone r.value r.turn r.holder r.holder u) (some-injective _ _ (sym a.1.1 ∙ (ap (get_elem? s.views) e ∙ at))) a.1.2),
              ))
              (λ ne. (a.1.0, else_at s.views id r.holder w ne ∙ a.1.1, same r.holder r.holder a.1.0 a.1.2)),
        );
        alone = each_set (λ j u. (x : S) → u.holds ≡ Some x → Alone r.value turn r.holder j u) s.views id w
            (λ j u _ e x h. same r.holder j u (r.alone j u e x h))
            (λ x h. moved r.holder id (r.alone id v at x (sym holds ∙ h)));
        fits = each_set (λ j u. Fit r.value u) s.views id w (λ j u _ e. r.fits j u e) fits;
        apart = apart_set s.views id v w at (λ k p h. (p, ap (λ m. part_of m k) (sym parts) ∙ h)) r.apart;
        level = level_set r.seats s.views id v w at (λ k p h. (p, ap (λ m. part_of m k) (sym parts) ∙ h)) (ap (λ m. length m) parts) r.level;
      }

  turn_is : (s : St) (r : Rule s) → get_or s.words 0 0 ≡ r.turn
  turn_is s r = ap (λ ws. get_or ws 0 0) r.words

  -- a view that holds stands at the holder's place
  elsewhere : (s : St) (r : Rule s) (id : ℕ) (v : W) → get_elem? s.views id ≡ some v → v.holds ≡ None → r.turn ≢ 0 → r.holder ≢ id
  elsewhere s r id v at none_held n e =
      let a = (r.away n).1 in
      let same : a.0 ≡ v = some-injective _ _ (sym a.1 ∙ (ap (get_elem? s.views) e ∙ at)) in
      none_some r.value (sym none_held ∙ (ap (λ (u : W). u.holds) (sym same) ∙ a.2.copy))

  -- while a seat has the turn, the other views hold nothing
  only_one : (s : St) (r : Rule s) (id : ℕ) (v : W) (x : S) → get_elem? s.views id ≡ some v → v.holds ≡ Some x → (j : ℕ) (u : W) → j ≢ id → get_elem? s.views j ≡ some u → (y : S) → u.holds ≡ Some y → ⊥
  only_one s r id v x at holds j u other e y h = let mine = r.alone id v at x holds in let theirs = r.alone j u e y h in other (theirs.is_holder ∙ sym mine.is_holder)

  taking : (s : St) (r : Rule s) (id n : ℕ) (v : W) → get_elem? s.views id ≡ some v → r.turn ≡ 0 → n ≢ 0 → HasOwn v → Rule (stepped s 0 n id [] (holding v (Some r.value)) (takes 0 r.value))
  taking s r id n v at free up own =
      let w : W = holding v (Some r.value) in
      let mine : Alone r.value n id id w = record { taken = up; is_holder = refl; copy = refl; own = own } in
      record {
        value = r.value;
        turn = n;
        holder = id;
        seats = r.seats;
        words = ap (λ ws. set ws 0 n) r.words;
        home = λ z. absurd (up z);
        away = λ _. (ap (λ hs. set hs 0 none) (r.home free), (w, there_set s.views id v w at, mine));
        alone = each_set (λ j u. (x : S) → u.holds ≡ Some x → Alone r.value n id j u) s.views id w
            (λ j u _ e x h. absurd ((r.alone j u e x h).taken free))
            (λ _ _. mine);
        fits = each_set (λ j u. Fit r.value u) s.views id w (λ j u _ e. r.fits j u e)
            (let f = r.fits id v at in record { seen = f.seen; heard = f.heard; told = f.told; parts = f.parts });
        apart = apart_set s.views id v w at (λ k p h. (p, h)) r.apart;
        level = level_set r.seats s.views id v w at (λ k p h. (p, h)) refl r.level;
      }

  -- the turn is taken where it is free, and else nothing changes; in either case it is not free afterwards
  pub takes_turn : (slots id : ℕ) (me : M) (f : ℕ → ℕ) (a b : ℕ) → ((n : ℕ) → f n ≢ 0) → me.1 ≡ [] → HasOwn me.0 → Allows Rule slots id me 0 f (took log part marks (step slots 0 a b none) me)
  takes_turn slots id me f a b up empty own s r wide at small =
      let n : ℕ = get_or s.words 0 0 in
      dite (ℕ_discrete n 0)
      (λ z. let free : r.turn ≡ 0 = sym (turn_is s r) ∙ z in (
        holding me.0 (Some r.value),
        takes 0 r.value,
        ap (λ hs. get_elem? hs 0) (r.home free),
        taking s r id (f n) me.0 at free (up n) own,
        (
          (λ _. let g = r.fits id me.0 at in record { value = r.value; fits = record { seen = g.seen; heard = g.heard; told = g.told; parts = g.parts }; after = refl }),
          (λ ne. absurd (ne z)),
        ),
      ))
      (λ ne. (
        me.0,
        keeps,
        tt,
        stays s r (set s.words 0 (f n)) (f n) id me.0 me.0 at (ap (λ ws. set ws 0 (f n)) r.words) (λ z. absurd (up n z)) (λ z. absurd (ne (turn_is s r ∙ z))) refl refl refl (r.fits id me.0 at),
        ((λ z. absurd (ne z)), (λ _. refl)),
      ))

  -- the durable number is raised to the marks of the log that the job left
  pub raises : ((xs ys : List E) → IsPrefix xs ys → marks xs ≤ marks ys) → (slots id : ℕ) (me : M) (x y : S) (k a b : ℕ) → me.1 ≡ (0, y) ∷ [] → me.0.holds ≡ Some x → Moves log part me.0.seat x y → k ≡ marks (log y)
      → Allows Rule slots id me 1 (λ n. max n k) (raised_to log part (step slots 1 a b none) me)
  raises rises slots id me x y k a b carried holds moves is s r wide at small =
      let v : W = me.0 in
      let mine = r.alone id v at x holds in
      let same : x ≡ r.value = some_same x r.value (sym holds ∙ mine.copy) in
      let moved : Moves log part v.seat r.value y = subst (λ z. Moves log part v.seat z y) same moves in
      let w : W = raised log part v y in
      let n : ℕ = get_or s.words 1 0 in
      let number : n ≡ marks (log r.value) = ap (λ ws. get_or ws 1 0) r.words in
      let risen : marks (log r.value) ≤ marks (log y) = rises (log r.value) (log y) moved.grows in
      let inside = in_range v.parts v.seat mine.own.0 mine.own.1 in
      let now : Alone y r.turn id id w = record { taken = mine.taken; is_holder = refl; copy = refl; own = (part y v.seat, set_here v.parts v.seat (Some (part y v.seat)) inside) } in
      let less : (q : ℕ) (p : P) → part_of w.parts q ≡ Some p → (o : P) × (part_of v.parts q ≡ Some o) =
      λ q p h. ⊎_elim (λ (t : (q ≡ v.seat) × (Some (part y v.seat) ≡ Some p)). (mine.own.0, ap (part_of v.parts) t.0 ∙ mine.own.1)) (λ (t : (q ≢ v.seat) × (part_of v.parts q ≡ Some p)). (p, t.1)) (set_cases v.parts v.seat (Some (part y v.seat)) q p h) in (
        w,
        keeps,
        tt,
        record {
          value = y;
          turn = r.turn;
          holder = id;
          seats = r.seats;
          words = ap (λ ws. set ws 1 (max n k)) r.words ∙ ap (λ z. r.turn ∷ z ∷ []) (omega arith);
          home = λ z. absurd (mine.taken z);
          away = λ _. ((r.away mine.taken).0, (w, there_set s.views id v w at, now));
          alone = each_set (λ j u. (z : S) → u.holds ≡ Some z → Alone y r.turn id j u) s.views id w
              (λ j u other e z h. absurd (only_one s r id v x at holds j u other e z h))
              (λ _ _. now);
          fits = each_set (λ j u. Fit y u) s.views id w
              (λ j u other e. let g = r.fits j u e in record {
                seen = begins_further u.seen (log r.value) (log y) g.seen moved.grows;
                heard = begins_further u.heard (log r.value) (log y) g.heard moved.grows;
                told = let t = g.told in omega arith;
                parts = λ q p h. moved.others q (λ e'. other (r.apart j id q u v p mine.own.0 e at h (ap (part_of v.parts) e' ∙ mine.own.1))) ∙ g.parts q p h;
              })
              (let g = r.fits id v at in record {
                seen = begins_itself (log y);
                heard = begins_further v.heard (log r.value) (log y) g.heard moved.grows;
                told = let t = g.told in omega arith;
                parts = λ q p h. ⊎_elim (λ (t : (q ≡ v.seat) × (Some (part y v.seat) ≡ Some p)). ap (part y) t.0 ∙ some_same (part y v.seat) p t.1) (λ (t : (q ≢ v.seat) × (part_of v.parts q ≡ Some p)). moved.others q t.0 ∙ g.parts q p t.1) (set_cases v.parts v.seat (Some (part y v.seat)) q p h);
              });
          apart = apart_set s.views id v w at less r.apart;
          level = level_set r.seats s.views id v w at less (length-set v.parts v.seat (Some (part y v.seat))) r.level;
        },
        λ z e. ap (λ (u : S). (raised log part v u, me.1)) (ap (λ (l : List (ℕ × S)). (get_or l 0 (0, y)).1) (sym carried ∙ e)),
      )

  giving : (slots id : ℕ) (v : W) (y : S) (a b : ℕ) → v.holds ≡ Some y → Allows Rule slots id (v, (0, y) ∷ []) 0 (λ _. 0) (gave (step slots 0 a b none) (v, (0, y) ∷ []))
  giving slots id v y a b holds s r wide at small =
      let mine = r.alone id v at y holds in
      let same : y ≡ r.value = some_same y r.value (sym holds ∙ mine.copy) in
      let w : W = holding v None in (
        w,
        gives,
        tt,
        record {
          value = r.value;
          turn = 0;
          holder = id;
          seats = r.seats;
          words = ap (λ ws. set ws 0 0) r.words;
          home = λ _. ap (λ hs. set hs 0 (some y)) (r.away mine.taken).0 ∙ ap (λ z. some z ∷ []) same;
          away = λ ne. absurd (ne refl);
          alone = each_set (λ j u. (z : S) → u.holds ≡ Some z → Alone r.value 0 id j u) s.views id w
              (λ j u other e z h. absurd (only_one s r id v y at holds j u other e z h))
              (λ z h. absurd (none_some z h));
          fits = each_set (λ j u. Fit r.value u) s.views id w (λ j u _ e. r.fits j u e)
              (let f = r.fits id v at in record { seen = f.seen; heard = f.heard; told = f.told; parts = f.parts });
          apart = apart_set s.views id v w at (λ k p h. (p, h)) r.apart;
          level = level_set r.seats s.views id v w at (λ k p h. (p, h)) refl r.level;
        },
        refl,
      )

  -- the turn is given, and the value is at home again
  pub gives_turn : (slots id : ℕ) (me : M) (y : S) (a b : ℕ) → me.1 ≡ (0, y) ∷ [] → me.0.holds ≡ Some y → Allows Rule slots id me 0 (λ _. 0) (gave (step slots 0 a b none) me)
  gives_turn slots id me y a b carried holds = subst (λ c. Allows Rule slots id (me.0, c) 0 (λ _. 0) (gave (step slots 0 a b none) (me.0, c))) (sym carried) (giving slots id me.0 y a b holds)

  -- the durable number is that of the marks of the log
  pub tells : ((xs ys : List E) → IsPrefix xs ys → marks xs ≤ marks ys) → (slots id : ℕ) (me : M) (a b : ℕ) → Allows Rule slots id me 1 (λ n. n) (told marks (step slots 1 a b none) me)
  tells rises slots id me a b s r wide at small =
      let v : W = me.0 in
      let n : ℕ = get_or s.words 1 0 in
      let number : n ≡ marks (log r.value) = ap (λ ws. get_or ws 1 0) r.words in
      let f = r.fits id v at in
      let risen = rises v.seen (log r.value) f.seen in
      let before = f.told in (
        telling v n,
        keeps,
        tt,
        stays s r (set s.words 1 n) r.turn id v (telling v n) at (set-get_or s.words 1 0 ∙ r.words) (λ z. z) (λ z. z) refl refl refl
            record { seen = f.seen; heard = f.heard; told = omega arith; parts = f.parts },
        record { seen = omega arith; before = omega arith; after = refl },
      )

  -- what was heard of is seen
  pub settles_it : (slots id : ℕ) (me : M) (a b : ℕ) → Allows Rule slots id me 0 (λ n. n) (settles (step slots 0 a b none) me)
  settles_it slots id me a b s r wide at small =
      let v : W = me.0 in
      let f = r.fits id v at in
      let line = in_line v.seen v.heard (log r.value) f.seen f.heard in (
        settled v,
        keeps,
        tt,
        stays s r (set s.words 0 (get_or s.words 0 0)) r.turn id v (settled v) at (set-get_or s.words 0 0 ∙ r.words) (λ z. z) (λ z. z) refl refl refl
            record { seen = line.both; heard = (log r.value, refl); told = f.told; parts = f.parts },
        record { seen = line.first; heard = line.second; after = refl },
      )

  -- the holder's view stands where it stood
  away_at : (s : St) (r : Rule s) (views : List W) → (r.turn ≢ 0 → (u : W) → get_elem? s.views r.holder ≡ some u → get_elem? views r.holder ≡ some u) → r.turn ≢ 0
      → (s.homes ≡ none ∷ []) × ((u : W) × (get_elem? views r.holder ≡ some u) × Alone r.value r.turn r.holder r.holder u)
  away_at s r views keep n = let a = r.away n in (a.0, (a.1.0, keep n a.1.0 a.1.1, a.1.2))

  -- the next seat has its own part of what the splitting seat had
  pub splits : (id : ℕ) (v : W) → v.holds ≡ None → Splits Rule id v (split_left v) (split_right v)
  splits id v none_held s r at =
      let l : W = split_left v in
      let n : W = split_right v in
      let f = r.fits id v at in
      let fewer : (k : ℕ) (p : P) → part_of l.parts k ≡ Some p → (q : P) × (part_of v.parts k ≡ Some q) = λ k p h. (p, (without_cases v.parts (next_of v) k p h).1) in
      let old_apart = apart_set s.views id v l at fewer r.apart in
      let old_level = level_set r.seats s.views id v l at fewer (length-set v.parts (next_of v) None) r.level in
      let views : List W = set s.views id l in
      let not_old : (i k : ℕ) (u : W) (p q : P) → get_elem? views i ≡ some u → part_of u.parts k ≡ Some p → part_of n.parts k ≡ Some q → ⊥ =
      λ i k u p q e h m.
      let t = only_cases v.parts (next_of v) k q m in
      ⊎_elim
      (λ (x : (i ≡ id) × (l ≡ u)). (without_cases v.parts (next_of v) k p (ap (λ (y : W). part_of y.parts k) x.1 ∙ h)).0 t.0)
      (λ (x : (i ≢ id) × (get_elem? s.views i ≡ some u)). x.0 (r.apart i id k u v p q x.1 at h t.1))
      (at_set s.views id i l u e) in
      record {
        value = r.value;
        turn = r.turn;
        holder = r.holder;
        seats = r.seats;
        words = r.words;
        home = r.home;
        away = away_at s r (views ++ n ∷ []) (λ held u e. at_longer views (n ∷ []) r.holder u (else_at s.views id r.holder l (elsewhere s r id v at none_held held) ∙ e));
        alone = λ j u e x h. ⊎_elim
            (λ old. each_set (λ j u. (x : S) → u.holds ≡ Some x → Alone r.value r.turn r.holder j u) s.views id l (λ j u _ e. r.alone j u e) (λ x h. absurd (none_some x (sym none_held ∙ h))) j u old x h)
            (λ (t : (j ≡ length views) × (n ≡ u)). absurd (none_some x (ap (λ (y : W). y.holds) t.1 ∙ h)))
            (at_push views n u j e);
        fits = λ j u e. ⊎_elim
            (λ old. each_set (λ j u. Fit r.value u) s.views id l (λ j u _ e. r.fits j u e)
            record { seen = f.seen; heard = f.heard; told = f.told; parts = λ k p h. f.parts k p (without_cases v.parts (next_of v) k p h).1 } j u old)
            (λ (t : (j ≡ length views) × (n ≡ u)). subst (Fit r.value) t.1 record { seen = f.seen; heard = (log r.value, refl); told = f.told; parts = λ k p h. f.parts k p (only_cases v.parts (next_of v) k p h).1 })
            (at_push views n u j e);
        apart = λ i j k u x p q ui xj up xq.
            ⊎_elim
            (λ ue. ⊎_elim
            (λ xe. old_apart i j k u x p q ue xe up xq)
            (λ (t : (j ≡ length views) × (n ≡ x)). absurd (not_old i k u p q ue up (ap (λ (y : W). part_of y.parts k) t.1 ∙ xq)))
            (at_push views n x j xj))
            (λ (t : (i ≡ length views) × (n ≡ u)). ⊎_elim
            (λ xe. absurd (not_old j k x q p xe xq (ap (λ (y : W). part_of y.parts k) t.1 ∙ up)))
            (λ (t' : (j ≡ length views) × (n ≡ x)). t.0 ∙ sym t'.0)
            (at_push views n x j xj))
            (at_push views n u i ui);
        level = λ j k u p e h. ⊎_elim
            (λ old. old_level j k u p old h)
            (λ (t : (j ≡ length views) × (n ≡ u)).
            let there = only_cases v.parts (next_of v) k p (ap (λ (y : W). part_of y.parts k) t.1 ∙ h) in
            ap (λ (y : W). length y.parts) (sym t.1) ∙ (length-only v.parts (next_of v) ∙ r.level id k v p at there.1))
            (at_push views n u j e);
      }

  -- a view has the part at its place, or the other has it that is joined into this one
  abbrev From : List W → ℕ → ℕ → ℕ → ℕ → Type 0
  From views id other i k =
      ((y : W) × (o : P) × (get_elem? views i ≡ some y) × (part_of y.parts k ≡ Some o))
      ⊎ ((i ≡ id) × ((y : W) × (o : P) × (get_elem? views other ≡ some y) × (part_of y.parts k ≡ Some o)))

  -- a seat takes in what another had
  pub joins : (id : ℕ) (v : W) (other : ℕ) (w : W) → v.holds ≡ None → w.holds ≡ None → HasOwn v → HasOwn w → Joins Rule id v other w (join_both v w) spent
  joins id v other w free free' own own' s r at apart_ids there =
      let b : W = join_both v w in
      let views : List W = set s.views id b in
      let at' : get_elem? s.views other ≡ some w = sym (else_at s.views id other b apart_ids) ∙ there in
      let f = r.fits id v at in
      let f' = r.fits other w at' in
      let long : length v.parts ≡ length w.parts = r.level id v.seat v own.0 at own.1 ∙ sym (r.level other w.seat w own'.0 at' own'.1) in
      -- each part stands where it stood, or came from the other view
      let from : (i k : ℕ) (u : W) (p : P) → get_elem? (set views other spent) i ≡ some u → part_of u.parts k ≡ Some p → From s.views id other i k =
      λ i k u p e h.
      ⊎_elim
      (λ (t : (i ≡ other) × (spent ≡ u)). absurd (none_some p (ap (λ (y : W). part_of y.parts k) t.1 ∙ h)))
      (λ (t : (i ≢ other) × (get_elem? views i ≡ some u)).
      ⊎_elim
      (λ (t' : (i ≡ id) × (b ≡ u)).
      ⊎_elim
      (λ mine. inl (v, p, ap (get_elem? s.views) t'.0 ∙ at, mine))
      (λ theirs. inr (t'.0, (w, p, at', theirs)))
      (together_cases v.parts w.parts k p (ap (λ (y : W). part_of y.parts k) t'.1 ∙ h)))
      (λ (t' : (i ≢ id) × (get_elem? s.views i ≡ some u)). inl (u, p, t'.1, h))
      (at_set s.views id i b u t.1))
      (at_set views other i spent u e) in
      let not_other : (i k : ℕ) (u : W) (p : P) → get_elem? (set views other spent) i ≡ some u → part_of u.parts k ≡ Some p → i ≢ other =
      λ i k u p e h is.
      ⊎_elim
      (λ (t : (i ≡ other) × (spent ≡ u)). none_some p (ap (λ (y : W). part_of y.parts k) t.1 ∙ h))
      (λ (t : (i ≢ other) × (get_elem? views i ≡ some u)). t.0 is)
      (at_set views other i spent u e) in
      record {
        value = r.value;
        turn = r.turn;
        holder = r.holder;
        seats = r.seats;
        words = r.words;
        home = r.home;
        away = away_at s r (set views other spent)
            (λ held u e. else_at views other r.holder spent (elsewhere s r other w at' free' held) ∙ (else_at s.views id r.holder b (elsewhere s r id v at free held) ∙ e));
        alone = each_set (λ j u. (x : S) → u.holds ≡ Some x → Alone r.value r.turn r.holder j u) views other spent
            (λ j u _ e. each_set (λ j u. (x : S) → u.holds ≡ Some x → Alone r.value r.turn r.holder j u) s.views id b (λ j u _ e. r.alone j u e) (λ x h. absurd (none_some x (sym free ∙ h))) j u e)
            (λ x h. absurd (none_some x h));
        fits = each_set (λ j u. Fit r.value u) views other spent
            (λ j u _ e. each_set (λ j u. Fit r.value u) s.views id b (λ j u _ e. r.fits j u e)
            record {
              seen = f.seen;
              heard = f'.seen;
              told = let t = f.told in let t' = f'.told in omega arith;
              parts = λ k p h. ⊎_elim (f.parts k p) (f'.parts k p) (together_cases v.parts w.parts k p h);
            } j u e)
            record { seen = (log r.value, refl); heard = (log r.value, refl); told = omega arith; parts = λ k p h. absurd (none_some p h) };
        apart = λ i j k u x p q ui xj up xq.
            ⊎_elim
            (λ (a : (y : W) × (o : P) × (get_elem? s.views i ≡ some y) × (part_of y.parts k ≡ Some o)). ⊎_elim
            (λ (c : (y : W) × (o : P) × (get_elem? s.views j ≡ some y) × (part_of y.parts k ≡ Some o)). r.apart i j k a.0 c.0 a.1 c.1 a.2 c.2 a.3 c.3)
            (λ (c : (j ≡ id) × ((y : W) × (o : P) × (get_elem? s.views other ≡ some y) × (part_of y.parts k ≡ Some o))). absurd (not_other i k u p ui up (r.apart i other k a.0 c.1.0 a.1 c.1.1 a.2 c.1.2 a.3 c.1.3)))
            (from j k x q xj xq))
            (λ (a : (i ≡ id) × ((y : W) × (o : P) × (get_elem? s.views other ≡ some y) × (part_of y.parts k ≡ Some o))). ⊎_elim
            (λ (c : (y : W) × (o : P) × (get_elem? s.views j ≡ some y) × (part_of y.parts k ≡ Some o)). absurd (not_other j k x q xj xq (r.apart j other k c.0 a.1.0 c.1 a.1.1 c.2 a.1.2 c.3 a.1.3)))
            (λ (c : (j ≡ id) × ((y : W) × (o : P) × (get_elem? s.views other ≡ some y) × (part_of y.parts k ≡ Some o))). a.0 ∙ sym c.0)
            (from j k x q xj xq))
            (from i k u p ui up);
        level = λ j k u p e h. each_set (λ j u. (p : P) → part_of u.parts k ≡ Some p → length u.parts ≡ r.seats) views other spent
            (λ j u _ e. each_set (λ j u. (p : P) → part_of u.parts k ≡ Some p → length u.parts ≡ r.seats) s.views id b
            (λ j u _ e p h. r.level j k u p e h)
            (λ p h. length-together v.parts w.parts long ∙ r.level id v.seat v own.0 at own.1) j u e)
            (λ p h. absurd (none_some p h)) j u e p h;
      }

  -- the rule at the start
  pub begins : (seats n : ℕ) (x : S) → n ≡ marks (log x) → Rule (opening (0 ∷ n ∷ []) (x ∷ []) (first_view log part seats x))
  begins seats n x is =
      let v : W = first_view log part seats x in
      let only_view : (F : ℕ → W → Type 0) → F 0 v → (j : ℕ) (u : W) → get_elem? (v ∷ []) j ≡ some u → F j u = λ F here j u e. at_first F here j u e in
      record {
        value = x;
        turn = 0;
        holder = 0;
        seats = seats;
        words = ap (λ z. 0 ∷ z ∷ []) is;
        home = λ _. refl;
        away = λ ne. absurd (ne refl);
        alone = only_view (λ j u. (y : S) → u.holds ≡ Some y → Alone x 0 0 j u) (λ y h. absurd (none_some y h));
        fits = only_view (λ j u. Fit x u) record { seen = begins_itself (log x); heard = (log x, refl); told = omega arith; parts = λ k p h. all_parts_cases (part x) seats k p h };
        apart = λ i j k u y p q ui yj _ _. only_view (λ i _. i ≡ j) (only_view (λ j _. 0 ≡ j) refl j y yj) i u ui;
        level = λ j k u p e _. only_view (λ _ u. length u.parts ≡ seats) (length-all_parts (part x) seats) j u e;
      }

  -- at the end: what the seat of a whole map knows is true of the value
  pub closes : (id : ℕ) (v : W) (ws : List ℕ) (xs : List S) → v.holds ≡ None → HasOwn v → ((k : ℕ) → k < length v.parts → (p : P) × (part_of v.parts k ≡ Some p)) → Final (Seen Rule id v) ws xs
      → (x : S) → get_elem? xs 0 ≡ some x → Fit x v
  closes id v ws xs free own whole last x first =
      let s = last.0 in
      let r = last.1.0 in
      let at = last.1.1 in
      let is_free : r.turn ≡ 0 = dite (ℕ_discrete r.turn 0) (λ z. z) (λ ne.
      let a = (r.away ne).1 in
      let theirs = a.2.own in
      let inside = in_range a.0.parts a.0.seat theirs.0 theirs.1 in
      let long : length a.0.parts ≡ length v.parts = r.level r.holder a.0.seat a.0 theirs.0 a.1 theirs.1 ∙ sym (r.level id v.seat v own.0 at own.1) in
      let mine = whole a.0.seat (omega arith) in
      absurd (elsewhere s r id v at free ne (r.apart r.holder id a.0.seat a.0 v theirs.0 mine.0 a.1 at theirs.1 mine.1))) in
      let there : get_elem? xs 0 ≡ some r.value = last.4 0 r.value (ap (λ hs. get_elem? hs 0) (r.home is_free)) in
      let f = r.fits id v at in
      subst (λ y. Fit y v) (some-injective _ _ (sym there ∙ first)) f
