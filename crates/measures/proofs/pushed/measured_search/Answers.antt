use mathlib.Core.Path.{ap, ◌∙◌}
use Rattle.measures.specs.Pushed.{found, searching}
use Rattle.measures.proofs.Beginnings.{search_asks}
use Rattle.measures.proofs.pushed.measured_search.Goals as goal

pub search-requires : goal.search-requires
search-requires c = rw (c.beginning-begun.ensures, c.read-handed.ensures) (search_asks _ _ _ c.requires)

pub returns : goal.returns
unfolding searching
returns c =
    c.found.ensures ∙ ap found (c.search.ensures ∙ rw (c.beginning-begun.ensures, c.read-handed.ensures))
