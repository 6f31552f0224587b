use borrow.Author.Rules.{rules}
use Rattle.binding.proofs.words.find_words.Goals as goal

pub note_applications-requires : goal.note_applications-requires
note_applications-requires c = record {
  head_names = c.requires.head_names;
  are_applied = c.requires.are_applied;
  by_len = (search rules, c.name_themselves.ensures);
}
