use borrow.Author.Rules.{rules}
use Rattle.text.proofs.LineLaws.{part_inside, next_part, line_fits, no_lines, wrote_part, wrote_parts}
use Rattle.text.proofs.lines.write_lines.Goals as goal

pub loop-i-init : goal.loop-i-init
loop-i-init c = (search rules, no_lines _ _ _ _)

pub overflow_add-to : goal.overflow_add-to
overflow_add-to c = let f = part_inside _ _ _ _ _ c.loop-i-test.true c.requires.count_in_bounds c.loop-i.invariant.0 in search rules

pub offset_bounds-words-from : goal.offset_bounds-words-from
offset_bounds-words-from c = let f = part_inside _ _ _ _ _ c.loop-i-test.true c.requires.count_in_bounds c.loop-i.invariant.0 in search rules

pub slice_bounds-write_line-end : goal.slice_bounds-write_line-end
slice_bounds-write_line-end c = let f = part_inside _ _ _ _ _ c.loop-i-test.true c.requires.count_in_bounds c.loop-i.invariant.0 in search rules

pub write_line-next-requires : goal.write_line-next-requires
write_line-next-requires c = line_fits _ _ _ _ _ c.loop-i-test.true c.requires.words_in_bounds c.loop-i.invariant.0 c.loop-i.invariant.1

pub loop-i-preserved : goal.loop-i-preserved
loop-i-preserved c = let v = c.loop-i.invariant in (next_part _ _ _ v.0, wrote_part _ _ _ _ v.0 v.1 c.write_line-next.ensures)

pub shape_of-out : goal.shape_of-out
shape_of-out c = c.loop-i.invariant.1.kept

pub returns : goal.returns
returns c = let v = c.loop-i.invariant in wrote_parts _ _ _ _ c.loop-i.auto.i-end c.loop-i-test.false v.1
