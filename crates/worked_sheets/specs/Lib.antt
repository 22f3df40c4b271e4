-- The cases of 01, "Sheets worked through", that are marked *: one table with a common statement (Table), of sheets written field by field (Sheets);
-- that each row holds (Theorems).
pub mod Sheets
pub mod Table
