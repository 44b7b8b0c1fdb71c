-- The limit as a number of any size: it is none from 65,536 on, and no mask's table has more bits than that, so that the tables that are filled
-- with the number itself as the limit are those of the search. Assumes nothing.
use Rattle.std.specs.Prelude.{Bool, true, false, List, [], ◌≡◌, ℕ, ◌+◌, ◌-◌, ◌*◌, ◌^◌, ◌≤◌, ◌<◌, ltb, length, get_or, Option, Some}
use Rattle.std.proofs.Common.{sym, ap, ◌∙◌, arith, lt-ltb, le-ltb, ltb-true, ltb-false}
use Rattle.spec.specs.Lists.{keep, range}
use Rattle.spec.specs.Improve.{over_limit}
use Rattle.laws.specs.Booleans.{by_cases}
use Rattle.laws.specs.ListLaws.{range_length, keep_length, sum_bound}
use Rattle.slots.specs.Weigh.{Light, open_weight, weighed, open_light}
use Rattle.masks.specs.Rows.{in_either}
use Rattle.masks.specs.Tables.{work_at}
use Rattle.subset.specs.Walk.{finite, passed_over, entry_of, tried_of, sum_below, Filled, best_at, split_at}
use Rattle.subset.specs.Entries.{over, within}
use Rattle.subset.specs.Counts.{sum_ext}
use Rattle.subset.specs.Ran.{Ran, RanOn}
use Rattle.subset.specs.Search.{limit_of, found_at, searched_in, tried_in}
use Rattle.subset.specs.Searched.{search_found_front, search_tried_front}
use Rattle.subset.specs.declared.Entry.{Entry}

-- ---- the limit ----

eights : (a b : ℕ) → a ≤ b → a * 8 ≤ b * 8
eights a b h = omega arith

pub bits_most : (wt : List ℕ) (p : ℕ → Bool) (n : ℕ) → Light wt → weighed wt [] p n ≤ n * 8
unfolding weighed
bits_most wt p n h =
    omega (
      arith,
      sum_bound (open_weight wt []) 8 (keep p (range n)) (open_light wt [] h),
      eights (length (keep p (range n))) n (omega (arith, keep_length p (range n), range_length 0 n)),
    )

pub limit_is : (x w : ℕ) → w ≤ 65536 → over_limit w (limit_of x) ≡ ltb x w
unfolding limit_of
limit_is x w h =
    by_cases (ltb x 65536) (λ e. rw e) (λ e. rw e (sym (le-ltb x w (omega (arith, ltb-false x 65536 e)))))

work_most : (kept : List (List ℕ)) (wt : List ℕ) (s : ℕ) → Light wt → work_at kept wt s s ≤ 65536
unfolding work_at
work_most kept wt s light = omega (arith, bits_most wt (in_either (get_or kept s []) (get_or kept s [])) 128 light)

-- ---- one mask ----

module _ (best : ℕ → ℕ) (work : ℕ → ℕ → ℕ) (n x : ℕ) where
  pub over_number : (s : ℕ) → s + 1 < n → x < work s s → passed_over best work n (Some x) s ≡ true
  over_number s h k = over best work n (Some x) s h (lt-ltb x (work s s) k)

  pub within_number : (s : ℕ) → work s s ≤ x → passed_over best work n (Some x) s ≡ false
  within_number s k = within best work n (Some x) s (le-ltb x (work s s) k)

  -- of tables that have no more bits than a limit may be
  module _ (small : (s : ℕ) → s < n → work s s ≤ 65536) where
    pub passed_limit : (s : ℕ) → passed_over best work n (limit_of x) s ≡ passed_over best work n (Some x) s
    unfolding passed_over
    passed_limit s =
        by_cases (ltb (s + 1) n)
        (λ e. rw e (limit_is x (work s s) (small s (omega (arith, ltb-true (s + 1) n e)))))
        (λ e. rw e)

    pub entry_limit : (s : ℕ) → entry_of best work n (limit_of x) s ≡ entry_of best work n (Some x) s
    unfolding entry_of
    entry_limit s = rw (passed_limit s)

    pub tried_limit : (s : ℕ) → tried_of best work n (limit_of x) s ≡ tried_of best work n (Some x) s
    unfolding tried_of
    tried_limit s = rw (passed_limit s)

    -- ---- the tables ----

    module _ (split : ℕ → ℕ) (top tried : ℕ) where
      tried_below : sum_below (tried_of best work n (limit_of x)) top ≡ sum_below (tried_of best work n (Some x)) top
      tried_below = sum_ext (tried_of best work n (limit_of x)) (tried_of best work n (Some x)) top (λ s h. tried_limit s)

      pub filled_limit : Filled best split work n (Some x) top tried → Filled best split work n (limit_of x) top tried
      filled_limit f =
          record {
            costs = λ s a b. f.costs s a b ∙ sym (ap (λ (e : Entry). e.cost) (entry_limit s));
            parts = λ s a b. f.parts s a b ∙ sym (ap (λ (e : Entry). e.part) (entry_limit s));
            count = f.count ∙ sym tried_below;
          }

      pub filled_number : Filled best split work n (limit_of x) top tried → Filled best split work n (Some x) top tried
      filled_number f =
          record {
            costs = λ s a b. f.costs s a b ∙ ap (λ (e : Entry). e.cost) (entry_limit s);
            parts = λ s a b. f.parts s a b ∙ ap (λ (e : Entry). e.part) (entry_limit s);
            count = f.count ∙ tried_below;
          }

-- ---- the search's answer and its count ----

module _ (was united kept : List (List ℕ)) (wt cost part : List ℕ) (n m x tried : ℕ) (masks : n ≡ 2 ^ m) (some_members : 1 ≤ m) (few : n ≤ 4096) (light : Light wt)
    (ran : RanOn was united kept wt cost part n (Some x) tried)
  where
    limited : RanOn was united kept wt cost part n (limit_of x) tried
    limited =
        record {
          done = ran.done;
          root = ran.root;
          keeps = ran.keeps;
          filled = filled_limit (best_at cost) (work_at kept wt) n x (λ s h. work_most kept wt s light) (split_at part) n tried ran.filled;
        }

    pub number_found_front : (o : Option ℕ) → o ≡ finite (get_or cost (n - 1) 0) → found_at part (2 ^ m) o ≡ searched_in was wt (limit_of x) m
    number_found_front = search_found_front was united kept wt cost part n m (limit_of x) tried masks some_members few limited

    pub number_tried_front : tried ≡ tried_in was wt (limit_of x) m
    number_tried_front = search_tried_front was united kept wt cost part n m (limit_of x) tried masks some_members few limited

-- the same of the lists that the steps leave
module _ (was united kept : List (List ℕ)) (b wt cost part : List ℕ) (n m x tried : ℕ) (masks : n ≡ 2 ^ m) (some_members : 1 ≤ m) (few : n ≤ 4096) (light : Light wt)
    (ran : Ran was united kept b wt cost part n (Some x) tried)
  where
    pub number_found : (o : Option ℕ) → o ≡ finite (get_or cost (n - 1) 0) → found_at part (2 ^ m) o ≡ searched_in was wt (limit_of x) m
    number_found = number_found_front was united kept wt cost part n m x tried masks some_members few light ran.front

    pub number_tried : tried ≡ tried_in was wt (limit_of x) m
    number_tried = number_tried_front was united kept wt cost part n m x tried masks some_members few light ran.front
