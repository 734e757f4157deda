use Rattle.store_api.proofs.AtKeys.{row_of-advanced_rows, row_of-with_items, row_of-rows_outside}
use Rattle.store_api.proofs.laws.rows_at_each_key.Goals as goal

pub returns : goal.returns
returns c = record { advance = row_of-advanced_rows; replace_range = row_of-with_items; erase_range = row_of-rows_outside }
