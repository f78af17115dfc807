-- The pieces are written over, and the areas behind them move.
use Rattle.std.proofs.Common.{◌≡◌, ◌+◌, ◌-◌, ◌++◌, length, take, drop, refl, sym, ap, ◌∙◌, arith}
use Rattle.std.proofs.lemmas.List.{length-take-le}
use Rattle.std.specs.List.{refill, length_refill}
use Rattle.vma_map.proofs.SpliceLemmas.{refilled, spliced_fewer, inserted_more}
use Rattle.vma_map.proofs.RangeLemmas.{no_area}
use Rattle.vma_map.proofs.range.splice.Goals as goal
use Rattle.vma_map.proofs.range.splice.Goals.{After-write_over}

-- how many areas there are when pieces were written over
kept : (c : After-write_over) → length c.write_over.new.areas ≡ length c.args.areas.now.items
kept c = c.write_over.auto.areas ∙ ap length c.as_mut_slice.ensures.value

-- the areas then
written : (c : After-write_over) → refill (length c.args.areas.now.items) c.args.areas.now.items c.write_over.new.areas ≡ take c.args.place c.args.areas.now.items ++ c.split_at.result.0.now ++ drop (c.args.place + length c.split_at.result.0.now) c.args.areas.now.items
written c =
    let over = c.split_at.result.0.now in
    refilled c.args.areas.now.items c.write_over.new.areas (kept c) ∙ c.write_over.ensures ∙ ap (λ xs. take c.args.place xs ++ over ++ drop (c.args.place + length over) xs) c.as_mut_slice.ensures.value

pub returns-then-pieces-count : goal.returns-then-pieces-count
returns-then-pieces-count c =
    let w = (goal.at.returns-then-pieces-count c).After-write_over in
    let old = c.args.areas.now.items in
    let over = c.split_at.result.0.now in
    let one = c.as_mut_slice-then-pieces-count.result.now in
    let two = c.move_behind.new.areas in
    let n = c.args.count - length c.args.pieces.now in
    let is_one = c.as_mut_slice-then-pieces-count.ensures.value in
    let moved : length two ≡ length (refill (length old) old c.write_over.new.areas) = c.move_behind.auto.areas ∙ ap length is_one in
    let first = is_one ∙ written w in
    let count : c.len-len.result ≡ length one = c.len-len.ensures.value ∙ sym (ap length is_one) in
    let room = c.split_at.ensures.front_len in
    let left = c.split_at.ensures.back_len in
    let fewer = c.min.ensures in
    let none : length c.split_at.result.1.now ≡ 0 = omega arith in
    c.truncate.ensures.items ∙ ap (λ xs. take (c.len-len.result - n) xs) (refilled (refill (length old) old c.write_over.new.areas) two moved) ∙ ap (λ k. take (k - n) two) count ∙ spliced_fewer old c.args.pieces.now over c.split_at.result.1.now one two c.args.place c.args.count n c.requires.within c.split_at.ensures.by_index.0 none (omega arith) first c.move_behind.ensures

pub loop-i-preserved : goal.loop-i-preserved
loop-i-preserved c =
    let old = c.args.areas.now.items in
    let over = c.split_at.result.0.now in
    let more = c.split_at.result.1.now in
    let one = refill (length old) old c.write_over.new.areas in
    let place = c.args.place + length over in
    let many : length one ≡ length old = sym (length_refill (length old) old c.write_over.new.areas refl) in
    let room = c.split_at.ensures.front_len in
    let fewer = c.min.ensures in
    let front = length-take-le place one (omega arith) in
    c.insert.ensures.items ∙ inserted_more (take place one) (drop place one) more c.loop-i.areas.items c.loop-i.i (place + c.loop-i.i) no_area (omega arith) (omega arith) c.loop-i.invariant
