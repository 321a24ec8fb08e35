mod LegsWritten
