-- Laws of insertion into a lent list: one name, then the names of all arguments. Assumes nothing.
use Prim.Native.Nat.{ℕ, zero, suc, ◌+◌, ◌-◌, ◌<◌, ◌≤◌}
use mathlib.Core.Path.{◌≡◌, refl, sym, ap, ◌∙◌}
use mathlib.Core.Bool.{Bool, true, false, cond}
use mathlib.Core.List.{List, [], ◌∷◌, ◌++◌, append-nil, append_assoc}
use native.Mathlib.Numerals.{add-one}
use native.Mathlib.Omega.{arith}
use lib.Dec.{eqb, ltb}
use lib.ListN.{length, get_or, set, take, drop, length-append, length-drop, take-append-drop, drop_of_length-le}
use lib.Seq.{sets, sets-eq, length-sets, set_comm, take-suc, take-add, take-take, take-set-le, take-append_seam, drop-drop, drop-append-add, drop-append-le, length-take-le}
use Rattle.extern_call.specs.Gather.{gather}
use Rattle.access_sets.specs.Set.{inserted, insert_all, Ascending}
use Rattle.access_sets.specs.Inner.{Listed}
use Rattle.extern_call.proofs.GatherLaws.{sets-append}
use Rattle.access_sets.proofs.SetLaws.{all-ascending}
use Rattle.access_sets.proofs.PlaceLaws.{inserted-there, inserted_new}

-- what is stored where it stands changes nothing
sets_same : (l : List ℕ) (i k : ℕ) → i + k ≤ length l → sets l i (take k (drop i l)) ≡ l
sets_same l i k h =
    let e : length (take k (drop i l)) ≡ k = length-take-le k (drop i l) (rw length-drop (omega arith)) in
    sets-eq (take k (drop i l)) l i (rw e h) ∙ rw (e, ← take-add i k l) (take-append-drop (i + k) l)

-- the first names of a list, left as they stand
pub same_listed : (l : List ℕ) (count : ℕ) → count < length l → Listed (take count l) l l count
same_listed l count h = record { count = sym (length-take-le count l (omega arith)); words = sym (sets_same l 0 count (omega arith)) }

-- of names stored from i on, the last may be stored first
sets_last : (a l : List ℕ) (i v : ℕ) → sets l i (a ++ v ∷ []) ≡ sets (set l (i + length a) v) i a
sets_last [] l i v = let e : i + 0 ≡ i = omega arith in rw e
sets_last (x ∷ a) l i v =
    let e : suc i + length a ≡ i + suc (length a) = omega arith in
    let n : i ≡ suc i + length a → ⊥ = λ q. omega arith in
    sets_last a (set l i x) (suc i) v ∙ rw (set_comm l i (suc i + length a) x v n, e)

-- the names from `place` below i have yet to go up by one, and the name to its place: a turn of the loop, and its end
module _ (now : List ℕ) (place name i : ℕ) (room : i < length now) where
  pub moving_turn : place < i → sets (set now (i - 1 + 1) (get_or now (i - 1) 0)) place (name ∷ drop place (take (i - 1) (set now (i - 1 + 1) (get_or now (i - 1) 0))))
      ≡ sets now place (name ∷ drop place (take i now))
  moving_turn h =
      let v = get_or now (i - 1) 0 in
      let s : suc (i - 1) ≡ i = omega arith in
      let t : take i now ≡ take (i - 1) now ++ v ∷ [] = rw s at (take-suc now (i - 1) 0 (omega arith)) in
      let n : length (take (i - 1) now) ≡ i - 1 = length-take-le (i - 1) now (omega arith) in
      let rest = drop place (take (i - 1) now) in
      let d : drop place (take i now) ≡ rest ++ v ∷ [] = rw t (drop-append-le place (take (i - 1) now) (v ∷ []) (omega arith)) in
      let k : place + suc (length rest) ≡ i = simp (length-drop, n) (omega arith) in
      let z : sets now place (name ∷ rest ++ v ∷ []) ≡ sets (set now i v) place (name ∷ rest) = sets_last (name ∷ rest) now place v ∙ rw k in
      let u : i - 1 + 1 ≡ i = omega arith in
      rw (u, take-set-le (i - 1) now i v (omega arith), d) (sym z)

  pub moving_end : i ≤ place → sets now place (name ∷ drop place (take i now)) ≡ set now place name
  moving_end h =
      let n = length-take-le i now (omega arith) in
      let k : length (take i now) ≤ place = omega arith in
      rw (drop_of_length-le (take i now) k)

-- a name as `binary_search` finds it among the first names
module _ (l : List ℕ) (count name place : ℕ) (room : count < length l) where
  pub insert_there : Ascending (take count l) → (place < length (take count l)) × (get_or (take count l) place 0 ≡ name) → Listed (inserted name (take count l)) l l count
  insert_there a h = rw (inserted-there name (take count l) place a h.0 h.1) (same_listed l count room)

  pub insert_new : (now : List ℕ)
      → (place ≤ length (take count l)) × ((k : ℕ) → k < place → get_or (take count l) k 0 < name) × ((k : ℕ) → place ≤ k → k < length (take count l) → name < get_or (take count l) k 0)
      → now ≡ sets l place (name ∷ drop place (take count l)) → Listed (inserted name (take count l)) l now (count + 1)
  insert_new now h e =
      let m = take count l in
      let n : length m ≡ count = length-take-le count l (omega arith) in
      let s : inserted name m ≡ take place m ++ name ∷ drop place m = inserted_new name m place h.0 h.1 h.2 in
      let t : take place m ≡ take place l = take-take place count l (omega (arith, h.0)) in
      let k : length (take place l) ≡ place = length-take-le place l (omega (arith, h.0)) in
      let z : 0 + place ≡ place = omega arith in
      let u : sets l 0 (take place l ++ name ∷ drop place m) ≡ sets l place (name ∷ drop place m) =
      sets-append (take place l) (name ∷ drop place m) l 0 ∙ rw (sets_same l 0 place (omega (arith, h.0)), k, z) in
      record { count = rw (s, t) (simp (length-append, k, length-drop, n) (omega (arith, h.0))); words = rw (s, t, u) e }

take-sets : (s l : List ℕ) → length s ≤ length l → take (length s) (sets l 0 s) ≡ s
take-sets s l h = rw (sets-eq s l 0 (omega arith)) (take-append_seam s (drop (0 + length s) l))

-- a longer list over a shorter one
sets_over : (s t l : List ℕ) → length s ≤ length t → length t ≤ length l → sets (sets l 0 s) 0 t ≡ sets l 0 t
sets_over s t l h g =
    let a : sets (sets l 0 s) 0 t ≡ t ++ drop (0 + length t) (sets l 0 s) = sets-eq t (sets l 0 s) 0 (rw length-sets (omega arith)) in
    let b : sets l 0 s ≡ s ++ drop (0 + length s) l = sets-eq s l 0 (omega arith) in
    let d : sets l 0 t ≡ t ++ drop (0 + length t) l = sets-eq t l 0 (omega arith) in
    let n : 0 + length t ≡ length s + (length t - length s) = omega arith in
    let m : 0 + length s + (length t - length s) ≡ length s + (length t - length s) = omega arith in
    let k : drop (0 + length t) (sets l 0 s) ≡ drop (0 + length t) l = rw (b, n, drop-append-add, drop-drop) (rw m) in
    a ∙ rw k (sym d)

grows : (b₁ b₂ : Bool) (x y : ℕ) (l m : List ℕ) → (length l ≤ length m) × (length m ≤ length l + 1)
    → (suc (length l) ≤ length (cond b₁ (x ∷ y ∷ l) (cond b₂ (y ∷ l) (y ∷ m)))) × (length (cond b₁ (x ∷ y ∷ l) (cond b₂ (y ∷ l) (y ∷ m))) ≤ suc (length l) + 1)
grows true b₂ x y l m h = (omega arith, omega arith)
grows false true x y l m h = (omega arith, omega arith)
grows false false x y l m h = (omega (arith, h.0), omega (arith, h.1))

inserted-length : (x : ℕ) (l : List ℕ) → (length l ≤ length (inserted x l)) × (length (inserted x l) ≤ length l + 1)
unfolding inserted
inserted-length x [] = (omega arith, omega arith)
inserted-length x (y ∷ l) = grows (ltb x y) (eqb x y) x y l (inserted x l) (inserted-length x l)

insert_all-length : (s l : List ℕ) → (length s ≤ length (insert_all s l)) × (length (insert_all s l) ≤ length s + length l)
unfolding insert_all
insert_all-length s [] = (omega arith, omega arith)
insert_all-length s (x ∷ l) =
    let h = insert_all-length (inserted x s) l in
    let g = inserted-length x s in
    (omega (arith, h.0, g.0), omega (arith, h.1, g.1))

insert_all-append : (a b s : List ℕ) → insert_all s (a ++ b) ≡ insert_all (insert_all s a) b
unfolding insert_all
insert_all-append [] b s = refl
insert_all-append (x ∷ a) b s = insert_all-append a b (inserted x s)

gather_more : (f : ℕ → List ℕ) (i n : ℕ) → gather f i (suc n) ≡ gather f i n ++ f (i + n)
unfolding gather
gather_more f i zero = let e : i + 0 ≡ i = omega arith in rw (e, append-nil)
gather_more f i (suc n) =
    let e : i + 1 + n ≡ i + suc n = omega arith in
    ap (λ (l : List ℕ). f i ++ l) (gather_more f (i + 1) n) ∙ rw (e, append_assoc)

-- the names of the arguments before i are listed
pub record Collecting (f : ℕ → List ℕ) (before now : List ℕ) (count i : ℕ) : Type 0 where
  pub listed : Listed (insert_all [] (gather f 0 i)) before now count
  pub few : count ≤ i

module _ (f : ℕ → List ℕ) (before : List ℕ) where
  pub collecting_start : Collecting f before before 0 0
  unfolding gather insert_all
  collecting_start = record { listed = record { count = refl; words = refl }; few = omega arith }

  module _ (now : List ℕ) (count i : ℕ) (h : i ≤ length before) (c : Collecting f before now count i) where
    collecting_names : take count now ≡ insert_all [] (gather f 0 i)
    collecting_names =
        let n = c.listed.count in
        rw (n, c.listed.words) (take-sets (insert_all [] (gather f 0 i)) before (omega (arith, n, c.few)))

    pub collecting_ascends : Ascending (take count now)
    collecting_ascends = rw collecting_names (all-ascending (gather f 0 i))

  pub collecting_turn : (now now' : List ℕ) (count count' i : ℕ) → i < length before → length (f i) ≤ 1
      → Collecting f before now count i → Listed (insert_all (take count now) (f i)) now now' count' → Collecting f before now' count' (i + 1)
  collecting_turn now now' count count' i h one c l =
      let s = insert_all [] (gather f 0 i) in
      let n = c.listed.count in
      let t : take count now ≡ s = collecting_names now count i (omega arith) c in
      let m : gather f 0 (i + 1) ≡ gather f 0 i ++ f i = let z : 0 + i ≡ i = omega arith in rw (add-one i) (rw z at (gather_more f 0 i)) in
      let g : insert_all [] (gather f 0 (i + 1)) ≡ insert_all s (f i) = rw m (insert_all-append (gather f 0 i) (f i) []) in
      let b = insert_all-length s (f i) in
      let k : count' ≡ length (insert_all s (f i)) = rw (← t) l.count in
      record {
        listed =
            record {
              count = rw g k;
              words = rw (l.words, t, c.listed.words, g) (sets_over s (insert_all s (f i)) before b.0 (omega (arith, b.1, n, c.few)));
            };
        few = omega (arith, b.1, n, c.few, k);
      }
