-- REFUSALS 2 AND 12 OF `swim::save`, in plain words: the node isn't sound; it is, and its image is longer than the row. REFUSED, NOTHING IS WRITTEN.
-- Assumes nothing.
use Rattle.std.specs.Prelude.{List, ℕ}
use Rattle.model.specs.Node.{loaded}
use Rattle.address.specs.Here.{here}
use Rattle.node.specs.declared.Node.{Node}
use Rattle.node.specs.Views.{stored_view}
use Rattle.image.specs.Forms.{image_of}
use Rattle.image.specs.Versions.{versions}
use Rattle.saving.specs.Saving.{saved_list}
use Rattle.saving.specs.Views.{Saves}
use Rattle.saving.specs.declared.Saving.{Saving}

module _ (node : Node) (row : List ℕ) (r : Saving) (row' : List ℕ) (met : Saves node row r row') where
  -- the image that is to be written
  abbrev pub image : List ℕ
  image = image_of versions (saved_list here (loaded (stored_view node)))
