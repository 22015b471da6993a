-- `RowRunsLaws` has that the runs of a row are its pixels, `WindowsLaws` what a window is and that dropping the first run loses none, `ScanLaws` that the
-- scan comes to the answer, `RowSearchLaws` the theorems on the answer, `RowReadsLaws` those on what is read; `Examples` some rows.
pub mod RowRunsLaws
pub mod WindowsLaws
pub mod ScanLaws
pub mod RowSearchLaws
pub mod RowReadsLaws
pub mod Examples
