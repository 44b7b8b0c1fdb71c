-- Forests: an array, the trees over it, and how often each number stands in them. Joining two trees under a new node keeps a forest; the leaves
-- over the empty array are one; and one tree left of that forest is a valid tree. Assumes nothing.
use Rattle.std.specs.Prelude.{◌≡◌, refl, true, false, cond, List, [], ◌∷◌, ◌++◌, ℕ, zero, suc, ◌+◌, ◌-◌, ◌≤◌, ◌<◌, eqb, ltb, length}
use Rattle.std.proofs.Common.{◌∙◌, arith, lt_of_not-le, length-append, eqb-true, ne_eqb, lt-ltb, le-ltb, ltb-true, ltb-false}
use mathlib.Mathlib.Data.Bool.Basic.{eq-false_of_not-eq-true, eq-true_of_not-eq-false}
use Rattle.std.proofs.lemmas.List.{length-map}
use Rattle.std.proofs.lemmas.Bool.{eqb-false}
use Rattle.spec.specs.Lists.{memb, count, range, from, sum_of}
use Rattle.spec.specs.Members.{All}
use Rattle.spec.specs.Network.{Network, leaf_count}
use Rattle.spec.specs.Tree.{Tree, leaf, node, number, numbers, Pair, Describes, ValidTree}
use Rattle.spec.specs.Greedy.{plus, joined, leaves_of}
use Rattle.laws.specs.Booleans.{by_cases, clash}
use Rattle.laws.specs.MemberLaws.{all_map, get_more, get_last}
use Rattle.laws.specs.ListLaws.{count_memb, count_not_memb, range_length, sum_length, memb_one, count_three, three_cases}
use Rattle.laws.specs.Counts.{count_in, count_out}
use Rattle.laws.specs.Walks.{inners}
use Rattle.laws.specs.Arrays.{number_in}

-- ---- a list of trees is the tree t and a rest, in some order ----

pub record Takes (t : Tree) (rest ts : List Tree) : Type 1 where
  pub sums : (f : Tree → ℕ) → sum_of f ts ≡ f t + sum_of f rest
  pub alls : (P : Tree → Type 0) → All P ts → P t × All P rest
  pub back : (P : Tree → Type 0) → P t → All P rest → All P ts

pub takes_head : (t : Tree) (l : List Tree) → Takes t l (t ∷ l)
takes_head t l = record { sums = λ f. refl; alls = λ P h. h; back = λ P x h. (x, h) }

pub takes_cons : (t u : Tree) (l l' : List Tree) → Takes t l l' → Takes t (u ∷ l) (u ∷ l')
takes_cons t u l l' r =
    record {
      sums = λ f. omega (arith, r.sums f);
      alls = λ P h. ((r.alls P h.1).0, (h.0, (r.alls P h.1).1));
      back = λ P x h. (h.0, r.back P x h.1);
    }

pub takes_last : (t : Tree) (l : List Tree) → Takes t l (l ++ (t ∷ []))
takes_last t [] = takes_head t []
takes_last t (u ∷ l) = takes_cons t u l (l ++ (t ∷ [])) (takes_last t l)

-- ---- forests ----

-- no number of the tree is above its root's
abbrev pub Topped : Tree → Type 0
Topped t = (v : ℕ) → memb v (numbers t) ≡ true → v ≤ number t

-- 1 from lo to below hi
abbrev pub fresh : ℕ → ℕ → ℕ → ℕ
fresh lo hi v = cond (ltb v lo) 0 (cond (ltb v hi) 1 0)

pub fresh_none : (lo hi v : ℕ) → hi ≤ v → fresh lo hi v ≡ 0
fresh_none lo hi v h = by_cases (ltb v lo) (λ e. rw e) (λ e. rw (e, le-ltb v hi h))

fresh_step : (lo hi v : ℕ) → lo ≤ hi → fresh lo (suc hi) v ≡ fresh lo hi v + count v (hi ∷ [])
fresh_step lo hi v h =
    by_cases (ltb v hi)
    (λ e. let b : v < hi = ltb-true v hi e in
    rw (e, lt-ltb v (suc hi) (omega arith), ne_eqb v hi (λ q. omega arith)) (omega arith))
    (λ e. let b : hi ≤ v = ltb-false v hi e in
    by_cases (eqb v hi)
    (λ q. let z : v ≡ hi = eqb-true v hi q in
    rw (e, q, lt-ltb v (suc hi) (omega arith), le-ltb v lo (omega arith)))
    (λ q. let z : v ≡ hi → ⊥ = eqb-false v hi q in
    rw (e, q, le-ltb v (suc hi) (omega (arith, z)), le-ltb v lo (omega arith))))

fresh-one : (lo hi v : ℕ) → fresh lo hi v ≤ 1
fresh-one lo hi v = by_cases (ltb v lo) (λ e. rw e (omega arith)) (λ e. rw e (by_cases (ltb v hi) (λ f. rw f (omega arith)) (λ f. rw f (omega arith))))

-- `base` is how often the start has each number, lo the first number that was free at the start, and `all` what nodes and trees come to
-- together
pub record Forest (n : ℕ) (base : ℕ → ℕ) (lo all : ℕ) (a : List Pair) (ts : List Tree) : Type 0 where
  pub free : (v : ℕ) → lo ≤ v → base v ≡ 0
  pub amount : length a + length ts ≡ all
  pub each : All (λ t. Describes n a t × Topped t) ts
  pub high : lo ≤ n + length a
  pub counts : (v : ℕ) → sum_of (λ t. count v (numbers t)) ts ≡ base v + fresh lo (n + length a) v
  pub deep : sum_of inners ts ≤ length a

-- no number stands twice, if none does at the start
pub forest_once : {n : ℕ} {base : ℕ → ℕ} {lo all : ℕ} {a : List Pair} {ts : List Tree} → Forest n base lo all a ts → ((v : ℕ) → base v ≤ 1)
    → (v : ℕ) → sum_of (λ t. count v (numbers t)) ts ≤ 1
forest_once {n} {base} {lo} {all} {a} s single v =
    by_cases (ltb v lo)
    (λ e. omega (arith, rw e at (s.counts v), single v))
    (λ e. omega (arith, s.counts v, s.free v (ltb-false v lo e), fresh-one lo (n + length a) v))

pub describes_more : (n : ℕ) (a b : List Pair) (t : Tree) → Describes n a t → Describes n (a ++ b) t
describes_more n a b (leaf i) d = d
describes_more n a b (node v l r) d =
    (d.0, get_more a b (v - n) _ d.1, describes_more n a b l d.2, describes_more n a b r d.3)

-- ---- two trees are joined under a new node ----

module _ (N : Network) {base : ℕ → ℕ} {lo all : ℕ} (a : List Pair) (ts ts₁ rest ts' : List Tree) (t u : Tree)
    (s : Forest (leaf_count N) base lo all a ts) (p : Takes t ts₁ ts) (q : Takes u rest ts₁) (r : Takes (joined N a t u) rest ts')
  where
    -- what stands in a tree is below the next free number
    below_next : (v : ℕ) → 1 ≤ sum_of (λ t. count v (numbers t)) ts → v < leaf_count N + length a
    below_next v m =
        lt_of_not-le (λ h. omega (arith, s.counts v, s.free v (omega (arith, s.high)), fresh_none lo (leaf_count N + length a) v h))

    longer : length (plus a t u) ≡ suc (length a)
    longer = length-append a _ ∙ omega arith

    new_topped : Topped (joined N a t u)
    new_topped v m =
        three_cases v (leaf_count N + length a) (numbers t) (numbers u) m
        (λ e. omega (arith, below_next v (omega (arith, count_memb v (numbers t) e, p.sums (λ t. count v (numbers t))))))
        (λ e. omega (
          arith,
          below_next v (omega (arith, count_memb v (numbers u) e, p.sums (λ t. count v (numbers t)), q.sums (λ t. count v (numbers t)))),
        ))
        (λ e. omega arith)

    -- what there was of the trees
    parts : (Describes (leaf_count N) a t × Topped t) × All (λ t. Describes (leaf_count N) a t × Topped t) ts₁
    parts = p.alls _ s.each

    parts' : (Describes (leaf_count N) a u × Topped u) × All (λ t. Describes (leaf_count N) a t × Topped t) rest
    parts' = q.alls _ parts.1

    new_described : Describes (leaf_count N) (plus a t u) (joined N a t u)
    new_described = (
      omega arith,
      rw (let z : leaf_count N + length a - leaf_count N ≡ length a = omega arith in z) (get_last a _),
      describes_more (leaf_count N) a _ t parts.0.0,
      describes_more (leaf_count N) a _ u parts'.0.0,
    )

    lengths : suc (length ts') ≡ length ts
    lengths =
        omega (
          arith,
          p.sums (λ t. 1),
          q.sums (λ t. 1),
          r.sums (λ t. 1),
          sum_length ts,
          sum_length ts',
        )

    pub join_forest : Forest (leaf_count N) base lo all (plus a t u) ts'
    join_forest =
        record {
          free = s.free;
          amount = omega (arith, longer, lengths, s.amount);
          each = r.back _ (new_described, new_topped)
              (all_map _ _ rest (λ t d. (describes_more (leaf_count N) a _ t d.0, d.1)) parts'.1);
          high = omega (arith, longer, s.high);
          counts = λ v. rw (longer, let z : leaf_count N + suc (length a) ≡ suc (leaf_count N + length a) = omega arith in z)
              (omega (
                arith,
                p.sums (λ t. count v (numbers t)),
                q.sums (λ t. count v (numbers t)),
                r.sums (λ t. count v (numbers t)),
                count_three v (leaf_count N + length a) (numbers t) (numbers u),
                s.counts v,
                fresh_step lo (leaf_count N + length a) v s.high,
              ));
          deep = omega (arith, longer, p.sums inners, q.sums inners, r.sums inners, s.deep);
        }

-- ---- all leaves ----

pub leaves_length : (n : ℕ) → length (leaves_of (range n)) ≡ n
leaves_length n = length-map (range n) (λ i. leaf i) ∙ range_length 0 n

pub leaves_count : (v : ℕ) (l : List ℕ) → sum_of (λ t. count v (numbers t)) (leaves_of l) ≡ count v l
leaves_count v [] = refl
leaves_count v (i ∷ l) = by_cases (eqb v i) (λ e. rw e (omega (arith, leaves_count v l))) (λ e. rw e (omega (arith, leaves_count v l)))

pub leaf_topped : (i : ℕ) → Topped (leaf i)
leaf_topped i v m = omega (arith, memb_one v i m)

leaves_each : (n : ℕ) (a : List Pair) (k m : ℕ) → k + m ≤ n → All (λ t. Describes n a t × Topped t) (leaves_of (from k m))
leaves_each n a k zero h = tt
leaves_each n a k (suc m) h = ((omega arith, leaf_topped k), leaves_each n a (suc k) m (omega arith))

pub leaves_flat : (l : List ℕ) → sum_of inners (leaves_of l) ≡ 0
leaves_flat [] = refl
leaves_flat (i ∷ l) = omega (arith, leaves_flat l)

leaves_free : (n v : ℕ) → n ≤ v → count v (range n) ≡ 0
leaves_free n v h = count_out v 0 n (λ x y. omega arith)

pub leaves_single : (n v : ℕ) → count v (range n) ≤ 1
leaves_single n v =
    by_cases (ltb v n)
    (λ e. omega (arith, count_in v 0 n (omega arith) (omega (arith, ltb-true v n e))))
    (λ e. omega (arith, leaves_free n v (ltb-false v n e)))

-- over the empty array they are a forest
pub leaves_forest : (n : ℕ) → Forest n (λ v. count v (range n)) n n [] (leaves_of (range n))
leaves_forest n =
    record {
      free = leaves_free n;
      amount = omega (arith, leaves_length n);
      each = leaves_each n [] 0 n (omega arith);
      high = omega arith;
      counts = λ v. leaves_count v (range n)
          ∙ by_cases (ltb v n) (λ e. rw e (omega arith)) (λ e. rw (e, le-ltb v (n + 0) (omega (arith, ltb-false v n e))) (omega arith));
      deep = omega (arith, leaves_flat (range n));
    }

-- and one tree left of them is a valid tree
pub forest_valid : (n : ℕ) (a : List Pair) (u : Tree) → Forest n (λ v. count v (range n)) n n a (u ∷ []) → ValidTree n a u
forest_valid n a u s =
    record {
      inner = omega (arith, s.amount);
      described = s.each.0.0;
      rooted = omega (arith, s.each.0.1 (n + length a - 1) (in_u (n + length a - 1) (omega (arith, s.amount))), low (number u) (number_in u), s.amount);
      met = met;
      above = above;
    }
  where
    met : (v : ℕ) → v < n + length a → count v (numbers u) ≡ 1
    met v b =
        by_cases (ltb v n)
        (λ e. omega (arith, rw e at (s.counts v), count_in v 0 n (omega arith) (omega (arith, ltb-true v n e))))
        (λ e. omega (arith, rw (e, lt-ltb v (n + length a) b) at (s.counts v), leaves_free n v (ltb-false v n e)))

    above : (v : ℕ) → n + length a ≤ v → memb v (numbers u) ≡ false
    above v b =
        eq-false_of_not-eq-true (λ e. omega (arith, count_memb v (numbers u) e, s.counts v, fresh_none n (n + length a) v b, leaves_free n v (omega arith)))

    in_u : (v : ℕ) → v < n + length a → memb v (numbers u) ≡ true
    in_u v b = eq-true_of_not-eq-false (λ e. omega (arith, met v b, count_not_memb v (numbers u) e))

    low : (v : ℕ) → memb v (numbers u) ≡ true → v < n + length a
    low v m = lt_of_not-le (λ h. clash m (above v h))
