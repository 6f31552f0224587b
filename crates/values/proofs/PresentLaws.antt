-- The variables present are listed by their least nodes. Assumes nothing.
use Prim.Native.Nat.{ℕ}
use mathlib.Core.List.{List}
use mathlib.Core.Path.{◌≡◌, ap, ◌∙◌}
use lib.ListN.{length, drop}
use Rattle.table.specs.Layout.{node_count}
use Rattle.unification.specs.Node.{nodes_from}
use Rattle.unification.specs.Code.Sections.{Sections}
use Rattle.values.specs.Code.Present.{variable_names, LeastByName, present_below, ListsPresent, least_nodes}
use Rattle.values.specs.Code.Begins.{Lists}
use Rattle.values.proofs.LeastLaws.{present_least, least_long}

-- the variables present, by their least nodes
pub present_lists : (nodes arguments least counts counts' : List ℕ) (n r : ℕ) → Sections nodes arguments → LeastByName nodes arguments least →
    n ≡ node_count nodes → ListsPresent least n counts r counts' → Lists nodes arguments r (drop 512 counts')
present_lists nodes arguments least counts counts' n r s l e p =
    record {
      within = p.within;
      counted = p.counted ∙ ap length present ∙ least_long (nodes_from nodes arguments);
      least = p.listed ∙ present;
    }
  where
    present : present_below least n variable_names ≡ least_nodes (nodes_from nodes arguments)
    present = rw e (present_least nodes arguments s least l)
